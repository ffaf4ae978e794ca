-- The captions of a text that is accepted: an entry for each signal, and a caption at each place that is noted.
-- Assumes nothing.
use mathlib.Core.Path.{◌≡◌, refl, sym, ap, subst, ◌∙◌}
use mathlib.Core.Bool.{Bool, true, false}
use mathlib.Core.List.{List}
use Prim.Native.Nat.{ℕ, zero, suc, ◌+◌, ◌<◌, ◌≤◌}
use native.Mathlib.Omega.{arith}
use native.Mathlib.Decide.{ℕ_discrete, dec_lt}
use lib.Dec.{ltb}
use lib.ListN.{length, get_or, set, take, replicate, length-replicate, length-set, get_or-eq_default}
use lib.Seq.{get_or-set_same, get_or-set_other, length-take-le}
use Rattle.std.specs.Prelude.{Option, Some, None}
use Rattle.read_bytes.proofs.Values.{same_some, none_not}
use Rattle.spec_limits.specs.Limits.{most_signals, most_caption_bytes}
use Rattle.spec_tilco.proofs.Lists.{take_equal}
use Rattle.read_bytes.specs.Read.Read.{got}
use Rattle.read_bytes.proofs.Answers.{same_value, came}
use Rattle.read_captions.specs.Captions.{caption_place, caption_at, caption_line, caption_lines, no_captions, captions_in}
use Rattle.read_captions.specs.Parts.{CaptionWithin}
use Rattle.read_captions.proofs.CaptionForms.{caption_long, form_said}
use Rattle.read_captions.proofs.CaptionLines.{line_said, line_placed}

module _ (names : List (List ℕ)) (c : List ℕ) where
  -- What holds before each line and is kept by taking one holds at the end.
  module _ (Q : List (Option ℕ) → Type 0) (keeps : (at : List (Option ℕ)) (p x q : ℕ) → caption_line names c at p ≡ got x q → Q at → Q (set at x (Some (caption_place c p)))) where
    lines_keep : (n : ℕ) (at : List (Option ℕ)) (p : ℕ) {at' : List (Option ℕ)} {q : ℕ} → caption_lines names c n at p ≡ got at' q → Q at → Q at'
    unfolding caption_lines
    lines_keep zero at p e h = subst Q (same_value e) h
    lines_keep (suc n) at p {at'} {q = r} e h = go (ltb p (length c)) refl (λ x q. lines_keep n (set at x (Some (caption_place c p))) q)
      where
        go : (b : Bool) → ltb p (length c) ≡ b → ((x q : ℕ) → caption_lines names c n (set at x (Some (caption_place c p))) q ≡ got at' r → Q (set at x (Some (caption_place c p))) → Q at') → Q at'
        go true i more =
            let d = came (caption_line names c at p) (λ x q. caption_lines names c n (set at x (Some (caption_place c p))) q) (rw i at e) in
            more d.value d.place d.then (keeps at p d.value d.place d.first h)
        go false i more = subst Q (same_value (rw i at e)) h

    all_keep : {at : List (Option ℕ)} {q : ℕ} → captions_in names c ≡ got at q → Q (no_captions (length names)) → Q at
    unfolding captions_in
    all_keep e h = lines_keep (length c) (no_captions (length names)) 0 e h

  pub noted_many : {at : List (Option ℕ)} {q : ℕ} → captions_in names c ≡ got at q → length at ≡ length names
  unfolding no_captions
  noted_many e = all_keep (λ at. length at ≡ length names) (λ at p x q i h. simp length-set h) e (length-replicate {A = Option ℕ} (length names) None)

-- The list of captions that is lent for n names.
module _ {n : ℕ} (few : n ≤ most_signals) where
  pub lent_long : n ≡ length (take n (replicate {A = Option ℕ} most_signals None))
  lent_long = sym (length-take-le n (replicate {A = Option ℕ} most_signals None) few)

  pub lent_none : {m : ℕ} → m ≡ n → take n (replicate {A = Option ℕ} most_signals None) ≡ no_captions m
  unfolding no_captions
  lent_none e = take_equal None n most_signals few ∙ ap (λ (k : ℕ). replicate {A = Option ℕ} k None) (sym e)

-- A caption stands at v of c.
pub record CaptionIn (c : List ℕ) (v : ℕ) : Type 0 where
  pub some : 1 ≤ length (caption_at c v)
  pub short : length (caption_at c v) ≤ most_caption_bytes
  pub inside : v + length (caption_at c v) < length c

-- There is no caption at first.
pub none_there : (n x : ℕ) → get_or (replicate {A = Option ℕ} n None) x None ≡ None
none_there zero x = refl
none_there (suc n) zero = refl
none_there (suc n) (suc x) = none_there n x

-- A line's caption.
line_caption : (names : List (List ℕ)) (c : List ℕ) (at : List (Option ℕ)) (p : ℕ) {x q : ℕ} → caption_line names c at p ≡ got x q → CaptionIn c (caption_place c p)
line_caption names c at p e =
    let y = line_said names c at p e in
    let h = form_said c p y.form in
    let z = line_placed c p y.form in
    let l = caption_long c (caption_place c p) in
    record { some = omega (arith, h.has.some, h.ends); short = omega (arith, h.has.short, h.ends); inside = omega (arith, z.inside, h.ends) }

-- Each caption that is noted stands in the text.
abbrev pub Each : List ℕ → List (Option ℕ) → Type 0
Each c at = (x v : ℕ) → get_or at x None ≡ Some v → CaptionIn c v

each_more : (c : List ℕ) (at : List (Option ℕ)) (y v : ℕ) → CaptionIn c v → Each c at → Each c (set at y (Some v))
each_more c at y v h all x w n = go (ℕ_discrete y x) (dec_lt y (length at))
  where
    go : Dec (y ≡ x) → Dec (y < length at) → CaptionIn c w
    go (yes e) (yes l) = subst (CaptionIn c) (same_some (sym (get_or-set_same at y (Some v) None l) ∙ ap (λ (z : ℕ). get_or (set at y (Some v)) z None) e ∙ n)) h
    go (yes e) (no l) = absurd (none_not (sym (get_or-eq_default (set at y (Some v)) None (simp length-set (omega arith))) ∙ n))
    go (no e) l = all x w (sym (get_or-set_other at y x (Some v) None (λ j. e (sym j))) ∙ n)

pub noted_each : (names : List (List ℕ)) (c : List ℕ) {at : List (Option ℕ)} {q : ℕ} → captions_in names c ≡ got at q → Each c at
unfolding no_captions
noted_each names c e =
    all_keep names c (Each c) (λ at p x q i h. each_more c at x (caption_place c p) (line_caption names c at p i) h) e
    (λ x v n. absurd (none_not (sym (none_there (length names) x) ∙ n)))

-- So each is a place in the text.
pub caption_inside : (names : List (List ℕ)) (c : List ℕ) {at : List (Option ℕ)} {q : ℕ} → captions_in names c ≡ got at q → (x : ℕ) → CaptionWithin c (get_or at x None)
caption_inside names c {at} e x = go (get_or at x None) (noted_each names c e x)
  where
    go : (o : Option ℕ) → ((v : ℕ) → o ≡ Some v → CaptionIn c v) → CaptionWithin c o
    go (Some v) h = let w = h v refl in omega (arith, w.inside)
    go None h = tt
