-- An index with no names, and one with a name more.
-- Assumes nothing.
use mathlib.Core.Path.{◌≡◌, sym, ap, subst, ◌∙◌}
use mathlib.Core.List.{List, [], ◌∷◌, ◌++◌}
use Prim.Native.Nat.{ℕ, suc, ◌+◌, ◌-◌, ◌<◌, ◌≤◌}
use native.Mathlib.Omega.{arith}
use native.Mathlib.Decide.{dec_lt, ℕ_discrete}
use lib.ListN.{length, get_or, set, take, length-set, drop_of_length-le, get_or-append}
use lib.Seq.{length-take-le, get_or-take, get_or-set_same, get_or-set_other, get_or-append_seam}
use Rattle.spec_limits.specs.Limits.{most_signals}
use Rattle.spec_tilco.proofs.Lists.{all_append}
use Rattle.read_names.specs.Spellings.{spelling_at, names_at}
use Rattle.read_names.proofs.Names.{names_append}
use Rattle.read_index.specs.NameTexts.{NameText}
use Rattle.read_index.specs.Index.{slots, links, index_numbers, slot_of, places_in, names_in, last_in, Indexed, IndexOf, put_name}
use Rattle.read_index.proofs.Slots.{slot_below, last_none, last_here, last_before, last_same}
use Rattle.read_index.proofs.Places.{names_in_many, used_long, places_more}

pub no_names : (s T : List ℕ) → length T ≡ index_numbers → ((b : ℕ) → b < slots → get_or T b 0 ≡ 0) → IndexOf s (take links T)
unfolding names_at
no_names s T n z =
    let l = length-take-le links T (omega arith) in
    let none : places_in (take links T) ≡ [] = drop_of_length-le (take links T) {i = links} (omega arith) in
    let first : length (take links T) - links ≡ 0 = omega arith in
    record {
      long = omega arith;
      few = omega arith;
      lasts = λ b h. get_or-take links T b 0 (omega arith) ∙ z b h ∙ sym (ap (last_in (names_in s (take links T)) b) first ∙ last_none (names_in s (take links T)) b);
      befores = λ i h. absurd (omega arith);
      known = rw none tt;
    }

-- U is T with the name w more.
record More (T U w : List ℕ) (k : ℕ) : Type 0 where
  long : length T ≡ links + k
  longer : length U ≡ links + (k + 1)
  fits : k < most_signals
  last : get_or U (slot_of w) 0 ≡ suc k
  others : (b : ℕ) → b < slots → (b ≡ slot_of w → ⊥) → get_or U b 0 ≡ get_or T b 0
  link : get_or U (slots + k) 0 ≡ get_or T (slot_of w) 0
  before : (i : ℕ) → i < k → get_or U (slots + i) 0 ≡ get_or T (slots + i) 0

module _ (names : List (List ℕ)) (T U w : List ℕ) (k : ℕ) (m : More T U w k) (x : Indexed names T) (n : length names ≡ k) where
  all : List (List ℕ)
  all = names ++ (w ∷ [])

  old : (i : ℕ) → i < k → get_or all i [] ≡ get_or names i []
  unfolding all
  old i h = get_or-append names (w ∷ []) [] i (omega arith)

  new : get_or all k [] ≡ w
  unfolding all
  new = ap (λ j. get_or (names ++ (w ∷ [])) j []) (sym n) ∙ get_or-append_seam names w [] []

  -- The last of the first names in a slot is the same with one more after them.
  last_old : (b i : ℕ) → i ≤ k → last_in names b i ≡ last_in all b i
  last_old b i h = last_same names all b i (λ j l. sym (old j (omega arith)))

  -- Each slot's last name before the new one.
  lasts_old : (b : ℕ) → b < slots → get_or T b 0 ≡ last_in all b k
  lasts_old b h =
      let e : length T - links ≡ k = omega (arith, m.long) in
      x.lasts b h ∙ ap (last_in names b) e ∙ last_old b k (omega arith)

  lasts_more : (b : ℕ) → b < slots → get_or U b 0 ≡ last_in all b (suc k)
  lasts_more b h = go (ℕ_discrete b (slot_of w))
    where
      go : Dec (b ≡ slot_of w) → get_or U b 0 ≡ last_in all b (suc k)
      go (yes e) = ap (λ j. get_or U j 0) e ∙ m.last ∙ sym (last_here all b k (ap slot_of new ∙ sym e))
      go (no e) = m.others b h e ∙ lasts_old b h ∙ sym (last_before all b k (λ i. e (sym i ∙ ap slot_of new)))

  befores_more : (i : ℕ) → i < k + 1 → get_or U (slots + i) 0 ≡ last_in all (slot_of (get_or all i [])) i
  befores_more i h = go (dec_lt i k)
    where
      go : Dec (i < k) → get_or U (slots + i) 0 ≡ last_in all (slot_of (get_or all i [])) i
      go (yes l) =
          m.before i l
          ∙ x.befores i (omega (arith, m.long))
          ∙ last_old (slot_of (get_or names i [])) i (omega arith)
          ∙ ap (λ v. last_in all (slot_of v) i) (sym (old i l))
      go (no l) =
          let e : k ≡ i = omega arith in
          subst (λ j. get_or U (slots + j) 0 ≡ last_in all (slot_of (get_or all j [])) j) e
          (m.link ∙ lasts_old (slot_of w) (slot_below w) ∙ ap (λ v. last_in all (slot_of v) k) (sym new))

  more_indexed : NameText w → Indexed all U
  unfolding all
  more_indexed t =
      let e : length U - links ≡ suc k = omega (arith, m.longer) in
      record {
        long = omega (arith, m.longer);
        few = omega (arith, m.longer, m.fits);
        lasts = λ b h. lasts_more b h ∙ ap (last_in all b) (sym e);
        befores = λ i h. befores_more i (omega (arith, m.longer));
        known = all_append NameText names (w ∷ []) x.known (t, tt);
      }

-- The numbers of a name that is put, and those that stay.
module _ (T : List ℕ) (k p b : ℕ) (n : length T ≡ index_numbers) (h : k < most_signals) (l : b < slots) where
  put_other : (j : ℕ) → j < links → (j ≡ slots + k → ⊥) → (j ≡ b → ⊥) → get_or (put_name T k p b) j 0 ≡ get_or T j 0
  unfolding put_name
  put_other j u c d =
      get_or-set_other (set (set T (links + k) p) (slots + k) (get_or T b 0)) b j (suc k) 0 d
      ∙ get_or-set_other (set T (links + k) p) (slots + k) j (get_or T b 0) 0 c
      ∙ get_or-set_other T (links + k) j p 0 (λ e. omega arith)

  put_last : get_or (put_name T k p b) b 0 ≡ suc k
  unfolding put_name
  put_last = get_or-set_same (set (set T (links + k) p) (slots + k) (get_or T b 0)) b (suc k) 0 (simp length-set (omega arith))

  put_link : get_or (put_name T k p b) (slots + k) 0 ≡ get_or T b 0
  unfolding put_name
  put_link =
      get_or-set_other (set (set T (links + k) p) (slots + k) (get_or T b 0)) b (slots + k) (suc k) 0 (λ e. omega arith)
      ∙ get_or-set_same (set T (links + k) p) (slots + k) (get_or T b 0) 0 (simp length-set (omega arith))

  in_use : (j : ℕ) → j < links → get_or (take (links + (k + 1)) (put_name T k p b)) j 0 ≡ get_or (put_name T k p b) j 0
  in_use j u = get_or-take (links + (k + 1)) (put_name T k p b) j 0 (omega arith)

  was_in_use : (j : ℕ) → j < links → get_or T j 0 ≡ get_or (take (links + k) T) j 0
  was_in_use j u = sym (get_or-take (links + k) T j 0 (omega arith))

  put_more : (w : List ℕ) → b ≡ slot_of w → More (take (links + k) T) (take (links + (k + 1)) (put_name T k p b)) w k
  put_more w e =
      record {
        long = length-take-le (links + k) T (omega arith);
        longer = used_long T k p b n h l;
        fits = h;
        last = rw (← e) (in_use b (omega arith) ∙ put_last);
        others = λ j u d. in_use j (omega arith) ∙ put_other j (omega arith) (λ i. omega arith) (λ i. d (i ∙ e)) ∙ was_in_use j (omega arith);
        link = rw (← e) (in_use (slots + k) (omega arith) ∙ put_link ∙ was_in_use b (omega arith));
        before = λ i u. in_use (slots + i) (omega arith) ∙ put_other (slots + i) (omega arith) (λ j. omega arith) (λ j. omega arith) ∙ was_in_use (slots + i) (omega arith);
      }

pub one_more : (s T : List ℕ) (k p b : ℕ) → length T ≡ index_numbers → k < most_signals → IndexOf s (take (links + k) T) → NameText (spelling_at s p) → b ≡ slot_of (spelling_at s p) → IndexOf s (take (links + (k + 1)) (put_name T k p b))
unfolding names_at all
one_more s T k p b n h x t e =
    let w = spelling_at s p in
    let l : b < slots = omega (arith, slot_below w) in
    let T₀ = take (links + k) T in
    let U = take (links + (k + 1)) (put_name T k p b) in
    let many : length (names_in s T₀) ≡ k = names_in_many s T₀ ∙ omega (arith, length-take-le (links + k) T (omega arith)) in
    let names : names_in s U ≡ names_in s T₀ ++ (w ∷ []) = ap (names_at s) (places_more T k p b n h l) ∙ names_append s (places_in T₀) (p ∷ []) in
    subst (λ ns. Indexed ns U) (sym names) (more_indexed (names_in s T₀) T₀ U w k (put_more T k p b n h l w e) x many t)
