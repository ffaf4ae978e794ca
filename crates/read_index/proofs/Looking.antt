-- Looking a spelling up: from the last name in its slot to the one before it, and so on.
-- Assumes nothing.
use mathlib.Core.Path.{◌≡◌, refl, sym, ap, ◌∙◌}
use mathlib.Core.Bool.{Bool, true, false}
use mathlib.Core.List.{List, []}
use Prim.Native.Nat.{ℕ, zero, suc, ◌+◌, ◌-◌, ◌<◌, ◌≤◌}
use native.Mathlib.Omega.{arith}
use lib.ListN.{length, get_or, drop}
use lib.Seq.{drop-length}
use Rattle.read_names.specs.Spellings.{spelling_at, same_text_lem, find_name}
use Rattle.read_bytes.proofs.Places.{drop_in}
use Rattle.read_names.proofs.Names.{same_text, find_here, find_later, find_is}
use Rattle.spec_tilco.proofs.Lists.{all_nth}
use Rattle.read_index.specs.declared.Found.{Found}
use Rattle.read_index.specs.NameTexts.{NameText}
use Rattle.read_index.specs.Index.{slots, links, slot_of, names_in, last_in, Indexed, IndexOf}
use Rattle.read_index.specs.Finds.{Finds}
use Rattle.read_index.proofs.NameTexts.{text_inside}
use Rattle.read_index.proofs.Slots.{slot_below, last_most, last_in_lem, last_after}
use Rattle.read_index.proofs.Places.{names_in_many, name_in}

-- A spelling that is found is a name's text.
pub found_text : {names : List (List ℕ)} {T r : List ℕ} {p : ℕ} {f : Found} → Indexed names T → Finds names r p f → f.signal < length names → NameText (spelling_at r p)
found_text {names} {r = r} {p} x h l =
    let w = spelling_at r p in
    let n : find_name w names < length names = omega (arith, h.found) in
    rw (find_is w names n) at (all_nth NameText [] names (find_name w names) x.known n)

module _ (names : List (List ℕ)) (w : List ℕ) where
  not_same : (n : List ℕ) → (n ≡ w → ⊥) → same_text_lem n w ≡ false
  not_same n h = go (same_text_lem n w) refl
    where
      go : (t : Bool) → same_text_lem n w ≡ t → t ≡ false
      go true e = absurd (h ((same_text n w).0 e))
      go false e = refl

  -- Where none of the d names from i on is w, the search goes on after them.
  find_over : (d i : ℕ) → i + d ≤ length names → ((j : ℕ) → i ≤ j → j < i + d → get_or names j [] ≡ w → ⊥) → i + find_name w (drop i names) ≡ i + d + find_name w (drop (i + d) names)
  find_over zero i l h = let n : i + 0 ≡ i = omega arith in rw n
  find_over (suc d) i l h =
      let n : i + 1 + d ≡ i + suc d = omega arith in
      let here = find_later w (get_or names i []) (drop (i + 1) names) (not_same (get_or names i []) (h i (omega arith) (omega arith))) in
      let on = find_over d (i + 1) (omega arith) (λ j a b. h j (omega arith) (omega arith)) in
      let more : i + find_name w (drop i names) ≡ i + 1 + find_name w (drop (i + 1) names) = rw (drop_in names i [] (omega arith), here) (omega arith) in
      more ∙ rw n at on

-- The names from `passed` on are searched, and the last of the others in the slot of w is the next.
pub record Looked (names : List (List ℕ)) (w : List ℕ) (signal link : ℕ) : Type 0 where
  pub passed : ℕ
  pub most : passed ≤ length names
  pub next : link ≡ last_in names (slot_of w) passed
  pub found : signal ≡ passed + find_name w (drop passed names)

module _ {names : List (List ℕ)} {w : List ℕ} {signal link : ℕ} where
  pub look_start : signal ≡ length names → link ≡ last_in names (slot_of w) (length names) → Looked names w signal link
  unfolding find_name
  look_start e h =
      record { passed = length names; most = omega arith; next = h; found = rw (drop-length names) (omega arith) }

  module _ (k : Looked names w signal link) where
    -- none of those from the next up to `passed` is w
    over : (i : ℕ) → link ≤ i → i ≤ k.passed → i + find_name w (drop i names) ≡ signal
    over i l m =
        let n : i + (k.passed - i) ≡ k.passed = omega arith in
        let none : (j : ℕ) → i ≤ j → j < i + (k.passed - i) → get_or names j [] ≡ w → ⊥ = λ j a b e. last_after names (slot_of w) k.passed j (omega (arith, k.next)) (omega arith) (ap slot_of e) in
        let on = find_over names w (k.passed - i) i (omega (arith, k.most)) none in
        (rw n at on) ∙ sym k.found

    pub look_end : link ≡ 0 → signal ≡ find_name w names
    look_end e = omega (arith, over 0 (omega arith) (omega arith))

    module _ (i : ℕ) (at : i + 1 ≡ link) where
      pub look_inside : i < length names
      look_inside = omega (arith, k.next, k.most, last_most names (slot_of w) k.passed)

      slot_same : slot_of (get_or names i []) ≡ slot_of w
      slot_same = last_in_lem names (slot_of w) k.passed i (omega (arith, k.next))

      -- The one before it, and w found at i or not.
      module _ (before : ℕ) (e : before ≡ last_in names (slot_of (get_or names i [])) i) where
        next_before : before ≡ last_in names (slot_of w) i
        next_before = e ∙ ap (λ b. last_in names b i) slot_same

        pub look_here : same_text_lem (get_or names i []) w ≡ true → Looked names w i before
        look_here h =
            let l = look_inside in
            record {
              passed = i;
              most = omega arith;
              next = next_before;
              found = rw (drop_in names i [] l, find_here w (get_or names i []) (drop (i + 1) names) h) (omega arith);
            }

        pub look_on : same_text_lem (get_or names i []) w ≡ false → Looked names w signal before
        look_on h =
            let l = look_inside in
            let m = last_most names (slot_of w) k.passed in
            let later = find_later w (get_or names i []) (drop (i + 1) names) h in
            let on = over (i + 1) (omega arith) (omega (arith, k.next)) in
            record {
              passed = i;
              most = omega arith;
              next = next_before;
              found = rw (drop_in names i [] l, later) (omega arith);
            }

-- THE INDEX OF A TEXT
module _ (s T : List ℕ) (x : IndexOf s T) where
  -- The search starts with the last name in the slot.
  pub index_start : (w : List ℕ) (b : ℕ) → b ≡ slot_of w → Looked (names_in s T) w (length T - links) (get_or T b 0)
  index_start w b e =
      let n = names_in_many s T in
      look_start (sym n) (rw (e, n) (x.lasts (slot_of w) (slot_below w)))

  module _ {w : List ℕ} {signal link : ℕ} (k : Looked (names_in s T) w signal link) (some : 0 < link) where
    next : link - 1 + 1 ≡ link
    next = omega arith

    -- Its numbers are inside the index, its place is inside the text, and the one before it is nearer to the start.
    pub turn_inside : links + (link - 1) < length T
    turn_inside = omega (arith, look_inside k (link - 1) next, names_in_many s T, x.long)

    pub turn_place : get_or T (links + (link - 1)) 0 ≤ length s
    turn_place =
        let t = rw (name_in s T (link - 1) turn_inside) at (all_nth NameText [] (names_in s T) (link - 1) x.known (look_inside k (link - 1) next)) in
        omega (arith, text_inside s (get_or T (links + (link - 1)) 0) t)

    -- The link j to the one before it.
    module _ (j : ℕ) (own : j ≡ slots + (link - 1)) where
      turn_before : get_or T j 0 ≡ last_in (names_in s T) (slot_of (get_or (names_in s T) (link - 1) [])) (link - 1)
      turn_before = rw own (x.befores (link - 1) turn_inside)

      pub turn_less : get_or T j 0 < link
      turn_less = omega (arith, turn_before, last_most (names_in s T) (slot_of (get_or (names_in s T) (link - 1) [])) (link - 1))

      -- The name is w, or it is not.
      module _ {v : List ℕ} (cut : v ≡ w) {t : Bool} (test : t ≡ same_text_lem (spelling_at s (get_or T (links + (link - 1)) 0)) v) where
        tested : same_text_lem (get_or (names_in s T) (link - 1) []) w ≡ t
        tested = rw (name_in s T (link - 1) turn_inside, ← cut) (sym test)

        pub turn_here : {found : ℕ} → t ≡ true → found ≡ link - 1 → Looked (names_in s T) w found (get_or T j 0)
        turn_here e f = rw f (look_here k (link - 1) next (get_or T j 0) turn_before (tested ∙ e))

        pub turn_on : {found : ℕ} → t ≡ false → found ≡ signal → Looked (names_in s T) w found (get_or T j 0)
        turn_on e f = rw f (look_on k (link - 1) next (get_or T j 0) turn_before (tested ∙ e))
