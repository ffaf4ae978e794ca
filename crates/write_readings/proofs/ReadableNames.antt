-- Names that can be written and read back: a name is read alike wherever it stands alone.
-- Assumes nothing.
use mathlib.Core.Path.{◌≡◌, refl, sym, ap, ◌∙◌}
use mathlib.Core.Bool.{Bool, true, false, and-eq-true_iff}
use mathlib.Core.List.{List, [], ◌∷◌, append-nil}
use Prim.Native.Nat.{ℕ, zero, suc, ◌+◌, ◌-◌, ◌<◌}
use native.Mathlib.Omega.{arith}
use borrow.Author.Tests.{le-leb}
use lib.ListN.{length, get_or}
use lib.Seq.{take_all}
use Rattle.std.specs.Prelude.{Option, Some}
use Rattle.spec_limits.specs.Limits.{most_name_bytes}
use Rattle.spec_tilco.specs.Lists.{All}
use Rattle.read_bytes.specs.Bytes.{bytes, byte, peek, name_byte, starts, run_end, every}
use Rattle.read_names.specs.EndNumbers.{end_number}
use Rattle.read_names.specs.Spellings.{spelling_at, spelling_end, same_text_lem, find_name, is_spelled, name_at}
use Rattle.read_bytes.proofs.Places.{peek_out}
use Rattle.read_bytes.proofs.Runs.{run_every, run_slice}
use Rattle.read_names.proofs.Spelling.{name_letter, word_more, word_none, is_word, is_by}
use Rattle.read_names.proofs.Names.{Differ, same_text, find_here, find_later, find_is, named}
use Rattle.write_bytes.proofs.Standing.{starts_self}

-- The whole of w is a name: read by itself, it is one up to its end.
abbrev pub WholeName : List ℕ → Type 0
WholeName w = name_at w 0 ≡ Some (length w, end_number w)

-- Each is a name, and no two are the same.
pub record Readable (names : List (List ℕ)) : Type 0 where
  pub whole : All WholeName names
  pub differ : Differ names

-- ---- where a spelling stands

module _ (s : List ℕ) (p : ℕ) (w : List ℕ) where
  -- Letters and digits that stand alone are the spelling there.
  pub spelling_alone : every name_byte w ≡ true → starts s p w ≡ true → peek s (p + length w) ≡ byte "\n" → spelling_at s p ≡ w
  unfolding name_byte
  spelling_alone all a lf =
      let i : is_spelled s p w ≡ true = sym (is_by s p w a) ∙ rw lf in
      sym ((same_text w (spelling_at s p)).0 (sym (is_word s p w all) ∙ i))

-- A spelling stands where it was read.
pub spelling_stands : (s : List ℕ) (p : ℕ) → starts s p (spelling_at s p) ≡ true
unfolding is_spelled
spelling_stands s p =
    let w = spelling_at s p in
    let i : is_spelled s p w ≡ true = is_word s p w (run_every name_byte s p) ∙ (same_text w w).1 refl in
    ((and-eq-true_iff (starts s p w) _).0 i).0

-- A spelling by itself is the same spelling.
alone : (w : List ℕ) → every name_byte w ≡ true → spelling_at w 0 ≡ w
alone w all =
    let a : starts w 0 w ≡ true = rw append-nil at (starts_self w []) in
    spelling_alone w 0 w all a (peek_out w (0 + length w) (omega arith))

-- ---- where a name stands

-- Two places with the same spelling, of which the first has a name.
module _ (s : List ℕ) (p : ℕ) {q : ℕ} {n : Option ℕ} (h : name_at s p ≡ Some (q, n)) (t : List ℕ) (o : ℕ) (same : spelling_at t o ≡ spelling_at s p) where
  first_same : peek t o ≡ peek s p
  first_same = go (name_byte (peek t o)) refl
    where
      more : spelling_at s p ≡ peek s p ∷ spelling_at s (p + 1)
      more = word_more s p (name_letter (peek s p) (named s p h).first)

      go : (b : Bool) → name_byte (peek t o) ≡ b → peek t o ≡ peek s p
      go true e = let m = sym (word_more t o e) ∙ same ∙ more in cc
      go false e =
          let m = word_none t o e in
          let z : 0 ≡ suc (length (spelling_at s (p + 1))) = ap length (sym m ∙ same ∙ more) in
          absurd (omega arith)

  spelled_same : (w : List ℕ) → every name_byte w ≡ true → is_spelled t o w ≡ is_spelled s p w
  spelled_same w all = is_word t o w all ∙ ap (same_text_lem w) same ∙ sym (is_word s p w all)

  -- The second has the name too.
  pub name_same : name_at t o ≡ Some (spelling_end t o, n)
  unfolding name_at every name_byte
  name_same =
      let m = named s p h in
      rw (first_same, spelled_same (bytes "since") refl, spelled_same (bytes "until") refl, same, m.first, le-leb (length (spelling_at s p)) most_name_bytes m.short, m.not_since, m.not_until, m.ended, ← m.number)

-- The name at a place of a text is a name by itself.
pub name_whole : (s : List ℕ) (p : ℕ) {q : ℕ} {n : Option ℕ} → name_at s p ≡ Some (q, n) → WholeName (spelling_at s p)
unfolding run_end
name_whole s p h =
    let w = spelling_at s p in
    let e = alone w (run_every name_byte s p) in
    let i : 0 + length (spelling_at w 0) ≡ length w = omega (arith, ap length e) in
    name_same s p h w 0 e ∙ rw (i, (named s p h).number)

-- The letters and digits of a name.
pub whole_bytes : (w : List ℕ) → WholeName w → every name_byte w ≡ true
whole_bytes w h = rw (← whole_spelling) (run_every name_byte w 0)
  where
    whole_spelling : spelling_at w 0 ≡ w
    whole_spelling = sym (run_slice name_byte w 0 (length w) (named w 0 h).ends) ∙ take_all (length w - 0) w (omega arith)

-- A name that stands before an LF is read there.
pub name_back : (s : List ℕ) (p : ℕ) (w : List ℕ) → WholeName w → starts s p w ≡ true → peek s (p + length w) ≡ byte "\n" → (name_at s p ≡ Some (p + length w, end_number w)) × (spelling_at s p ≡ w)
unfolding run_end
name_back s p w h a lf =
    let all = whole_bytes w h in
    let e = spelling_alone s p w all a lf in
    (name_same w 0 h s p (e ∙ sym (alone w all)) ∙ rw e, e)

-- ---- numbers of names

-- Each of the names is found,
find_some : (names : List (List ℕ)) (i : ℕ) → i < length names → find_name (get_or names i []) names < length names
find_some [] i h = absurd (omega arith)
find_some (n ∷ ns) zero h = let e = find_here n n ns ((same_text n n).1 refl) in omega arith
find_some (n ∷ ns) (suc i) h = go (same_text_lem n (get_or ns i [])) refl (find_some ns i (omega arith))
  where
    go : (b : Bool) → same_text_lem n (get_or ns i []) ≡ b → find_name (get_or ns i []) ns < length ns → find_name (get_or ns i []) (n ∷ ns) < length (n ∷ ns)
    go true e k = let l = find_here (get_or ns i []) n ns e in omega arith
    go false e k = let l = find_later (get_or ns i []) n ns e in omega arith

-- and where no two are the same, at its own number.
pub find_back : (names : List (List ℕ)) → Differ names → (i : ℕ) → i < length names → find_name (get_or names i []) names ≡ i
find_back names d i h =
    let w = get_or names i [] in
    let l = find_some names i h in
    d (find_name w names) i l h (find_is w names l)
