-- The places of the names in an index, and the names at them.
-- Assumes nothing.
use mathlib.Core.Path.{◌≡◌, refl, ap, ◌∙◌}
use mathlib.Core.List.{List, [], ◌∷◌, ◌++◌}
use Prim.Native.Nat.{ℕ, zero, suc, ◌+◌, ◌-◌, ◌<◌}
use native.Mathlib.Nat.{suc-add}
use native.Mathlib.Numerals.{add-one}
use native.Mathlib.Omega.{arith}
use lib.ListN.{length, get_or, set, take, drop, length-drop, length-set}
use lib.Seq.{take_all, length-take-le, get_or-drop, get_or-set_other, drop-append-le, drop-set-lt, take-set-lt, take-suc-set}
use Rattle.spec_limits.specs.Limits.{most_signals}
use Rattle.read_names.specs.Spellings.{spelling_at}
use Rattle.read_names.proofs.Names.{names_many, names_at_lem}
use Rattle.read_index.specs.Index.{slots, links, index_numbers, places_in, name_count, first_names, names_in, put_name}

module _ (s T : List ℕ) where
  pub names_in_many : length (names_in s T) ≡ length T - links
  names_in_many = names_many s (places_in T) ∙ length-drop links T

  -- The name at the i-th place.
  pub name_in : (i : ℕ) → links + i < length T → get_or (names_in s T) i [] ≡ spelling_at s (get_or T (links + i) 0)
  name_in i h =
      let l = length-drop links T in
      names_at_lem s (places_in T) i (omega arith) ∙ ap (spelling_at s) (get_or-drop links T i 0)

-- A part of a list from a place on, taken before or after what follows it is left out.
take_none : (n : ℕ) → ◌≡◌ {A = List ℕ} (take n []) []
take_none zero = refl
take_none (suc n) = refl

part_first : (a n : ℕ) (xs : List ℕ) → take n (drop a xs) ≡ drop a (take (a + n) xs)
part_first zero n xs = let e : n ≡ 0 + n = omega arith in ap (λ (k : ℕ). take k xs) e
part_first (suc a) n [] = rw suc-add (take_none n)
part_first (suc a) n (x ∷ xs) = rw suc-add (part_first a n xs)

-- The places, as the part of an index that is lent: where all names are in it, and where n are.
pub places_part_lem : (T : List ℕ) → take (name_count T) (drop links T) ≡ places_in T
places_part_lem T = take_all (name_count T) (drop links T) (omega (arith, length-drop links T))

pub first_part : (T : List ℕ) (n : ℕ) → take (links + n - links) (drop links T) ≡ places_in (first_names n T)
first_part T n = let e : links + n - links ≡ n = omega arith in ap (λ (k : ℕ). take k (drop links T)) e ∙ part_first links n T

-- A NAME MORE
module _ (T : List ℕ) (k p b : ℕ) where
  pub put_long : length (put_name T k p b) ≡ length T
  unfolding put_name
  put_long = simp length-set

  -- The last one in its slot is the same, whether it is read before or after the place is put; v is the new name's number and one.
  pub put_is : (v : ℕ) → v ≡ k + 1 → b < slots → set (set (set T (links + k) p) (slots + k) (get_or (set T (links + k) p) b 0)) b v ≡ put_name T k p b
  unfolding put_name
  put_is v e l = rw (e, get_or-set_other T (links + k) b p 0 (λ i. omega arith), add-one)

module _ (T : List ℕ) (k p b : ℕ) (n : length T ≡ index_numbers) (h : k < most_signals) (l : b < slots) where
  -- The part of the index that is in use.
  pub used_long : length (take (links + (k + 1)) (put_name T k p b)) ≡ links + (k + 1)
  used_long = length-take-le (links + (k + 1)) (put_name T k p b) (omega (arith, put_long T k p b))

  pub places_more : places_in (take (links + (k + 1)) (put_name T k p b)) ≡ places_in (take (links + k) T) ++ (p ∷ [])
  unfolding put_name
  places_more =
      let A = set T (links + k) p in
      let v = get_or T b 0 in
      let m = links + (k + 1) in
      let i : m ≡ suc (links + k) = omega arith in
      let t = length-take-le (links + k) T (omega arith) in
      ap (drop links) (take-set-lt m (set A (slots + k) v) b (suc k) (omega arith))
      ∙ drop-set-lt links (take m (set A (slots + k) v)) b (suc k) (omega arith)
      ∙ ap (drop links) (take-set-lt m A (slots + k) v (omega arith))
      ∙ drop-set-lt links (take m A) (slots + k) v (omega arith)
      ∙ ap (λ x. drop links (take x A)) i
      ∙ ap (drop links) (take-suc-set T (links + k) p (omega arith))
      ∙ drop-append-le links (take (links + k) T) (p ∷ []) (omega arith)
