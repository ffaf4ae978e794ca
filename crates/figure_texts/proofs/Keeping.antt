-- Notes that are kept in an array: they depend on their own places alone, so what is noted after them leaves them; and the notes of one text more.
-- Assumes nothing. `names` are the declared names in sheet order, W the window, ns the texts' lengths, j the joined texts, a the array and cs how many notes of each
-- text are kept.
use mathlib.Core.Path.{◌≡◌, refl, sym, ap, subst, ◌∙◌}
use mathlib.Core.List.{List, ◌++◌, map}
use Prim.Native.Nat.{ℕ, ◌+◌, ◌-◌, ◌<◌, ◌≤◌}
use native.Mathlib.Decide.{dec_lt}
use native.Mathlib.Omega.{arith}
use lib.ListN.{length, get_or, take, drop, set, length-set}
use lib.Seq.{take-add, take-take, take_at, drop_at, length-take-le, take-append-le, take-set-le, get_or-set_same, get_or-set_other}
use Rattle.spec_limits.specs.Limits.{most_readings}
use Rattle.read_bytes.specs.Read.Read.{got}
use Rattle.read_readings.specs.Readings.{entries}
use Rattle.read_readings.specs.SpanNumbers.{span_of, spans_in}
use Rattle.read_readings.proofs.Outcomes.{NotedAs}
use Rattle.figure_texts.specs.Notes.{sum_to, text_at, NotesAt, Keeps}
use Rattle.figure_texts.proofs.Sums.{sum_more, sum_later}

-- ---- a part of an array

-- c numbers from p on are the last of the first p + c.
part_of_first : (a : List ℕ) (p c : ℕ) → p ≤ length a → take c (drop p a) ≡ drop p (take (p + c) a)
part_of_first a p c h = rw take-add (sym (drop_at (take p a) (take c (drop p a)) p (length-take-le p a h)))

-- So they are the same in an array with the same first n numbers,
same_part : (a b : List ℕ) (n p c : ℕ) → take n a ≡ take n b → p + c ≤ n → n ≤ length a → n ≤ length b → take c (drop p a) ≡ take c (drop p b)
same_part a b n p c e h l k =
    part_of_first a p c (omega arith) ∙ ap (drop p) (sym (take-take (p + c) n a h) ∙ ap (take (p + c)) e ∙ take-take (p + c) n b h) ∙ sym (part_of_first b p c (omega arith))

-- and so are the notes.
notes_stay : {names : List (List ℕ)} {W : ℕ} {r a : List ℕ} (b : List ℕ) (n : ℕ) {p c : ℕ} → take n a ≡ take n b → length b ≡ length a → p + c ≤ n → n ≤ length a
    → NotesAt names W r a p c → NotesAt names W r b p c
unfolding spans_in
notes_stay {a = a} b n {p} {c} e s h l z = record {
  within = omega (arith, z.within);
  all = λ some. let x = z.all some in (x.0, x.1 ∙ ap (λ (t : List ℕ). got (map span_of t) x.0) (same_part a b n p c e h l (omega arith)));
}

-- ---- the notes of each text in turn

-- The notes of the texts before i are kept, in the first `used` places, and the entries of any text have places after them.
pub record KeptBefore (names : List (List ℕ)) (W : ℕ) (ns j a cs : List ℕ) (i used : ℕ) : Type 0 where
  pub used_is : used ≡ sum_to cs i
  pub places : most_readings + used ≤ length a
  pub notes : (k : ℕ) → k < i → NotesAt names W (text_at ns j k) a (sum_to cs k) (get_or cs k 0)

pub kept_none : (names : List (List ℕ)) (W : ℕ) (ns j a cs : List ℕ) → most_readings ≤ length a → KeptBefore names W ns j a cs 0 0
kept_none names W ns j a cs h = record { used_is = refl; places = h; notes = λ k l. absurd (omega arith) }

-- The array with another part from place `used` on.
abbrev pub put_from : ℕ → List ℕ → List ℕ → List ℕ → List ℕ
put_from used a part rest = take used a ++ (part ++ rest)

-- Text i is noted in the part from there on, which is put back, and c of its notes are kept.
module _ {names : List (List ℕ)} {W : ℕ} {ns j a cs : List ℕ} {i used : ℕ} (z : KeptBefore names W ns j a cs i used) (inside : i < length cs) (part rest : List ℕ)
    {count q c : ℕ} (same : length (put_from used a part rest) ≡ length a) (noted : NotedAs (entries names W (text_at ns j i)) part count q) (keeps : Keeps count (length (put_from used a part rest) - used) c) where
  room : length (take used a) ≡ used
  room = length-take-le used a (omega (arith, z.places))

  sum_here : sum_to (set cs i c) i ≡ used
  sum_here = rw (take-set-le i cs i c (omega arith)) (sym z.used_is)

  notes_here : NotesAt names W (text_at ns j i) (put_from used a part rest) (sum_to (set cs i c) i) (get_or (set cs i c) i 0)
  unfolding spans_in
  notes_here = rw (sum_here, get_or-set_same cs i c 0 inside) (record {
    within = omega (arith, z.places, keeps.places);
    all = λ some. (q, noted.all ∙ rw (drop_at (take used a) (part ++ rest) used room, keeps.all some, take-append-le count part rest noted.few));
  })

  notes_before : (k : ℕ) → k < i → NotesAt names W (text_at ns j k) (put_from used a part rest) (sum_to (set cs i c) k) (get_or (set cs i c) k 0)
  notes_before k l =
      rw (take-set-le k cs i c (omega arith), get_or-set_other cs i k c 0 (λ e. omega arith))
      (notes_stay (put_from used a part rest) used (sym (take_at (take used a) (part ++ rest) used room)) same
      (omega (arith, z.used_is, sum_later cs k i l (omega arith))) (omega (arith, z.places)) (z.notes k l))

  pub kept_more : KeptBefore names W ns j (put_from used a part rest) (set cs i c) (i + 1) (used + c)
  kept_more = record {
    used_is = omega (arith, sum_here, sum_more (set cs i c) i (rw length-set inside), get_or-set_same cs i c 0 inside);
    places = omega (arith, z.places, keeps.places);
    notes = λ k l. go k (dec_lt k i) l;
  }
    where
      go : (k : ℕ) → Dec (k < i) → k < i + 1 → NotesAt names W (text_at ns j k) (put_from used a part rest) (sum_to (set cs i c) k) (get_or (set cs i c) k 0)
      go k (yes b) l = notes_before k b
      go k (no b) l = subst (λ n. NotesAt names W (text_at ns j n) (put_from used a part rest) (sum_to (set cs i c) n) (get_or (set cs i c) n 0)) (omega arith) notes_here
