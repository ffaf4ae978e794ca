-- Captions are read, or refused by a number from 1 to 24; so is a call of caption.
-- Assumes nothing.
use mathlib.Core.Bool.{Bool, true, false, ◌&&◌}
use mathlib.Core.Logic.{◌↔◌}
use mathlib.Core.Path.{◌≡◌, refl, sym, subst}
use mathlib.Core.List.{List}
use Prim.Native.Nat.{ℕ, zero, suc, ◌+◌}
use lib.Dec.{T, eqb, ltb}
use native.Mathlib.Omega.{arith}
use lib.ListN.{length, get_or, set}
use Rattle.spec_limits.specs.Limits.{most_caption_bytes}
use Rattle.std.specs.Prelude.{Option, Some, None}
use Rattle.std.specs.Option.{is_some}
use Rattle.read_bytes.specs.Read.{Read, and_then}
use Rattle.read_bytes.specs.Read.Read.{got, refused as unread}
use Rattle.read_bytes.specs.Bytes.{byte, peek, pick, between, run_end}
use Rattle.read_bytes.proofs.Tests.{between_in, between_is}
use Rattle.read_lines.specs.Lines.{lf_at}
use Rattle.read_names.specs.Spellings.{find_name}
use Rattle.read_captions.specs.Captions.{before_equals, name_part, caption_place, caption_at, caption_end, caption_form, given_once, caption_line, caption_lines, no_captions, captions_in}
use Rattle.read_captions.specs.Parts.{shown_part}
use Rattle.read_sheet.specs.Sheet.{Contents}
use Rattle.open_sheet.specs.Results.{Result, accepted, refused}
use Rattle.open_sheet.specs.SheetIn.{sheet_in, names_in}
use Rattle.spec_caption.specs.Captioning.{part_by, part_of, caption_part}
use Rattle.c_api.specs.Leaves.{Left, leaves, part_values, CaptionLeaves}
use Rattle.c_api.proofs.Numbers.{Listed}
use Rattle.c_api.proofs.Acceptance.{Told, Accepted, answer_of, sheet_told}

-- Is n a refusal's number, captions' among them?
abbrev pub CaptionListed : ℕ → Type 0
CaptionListed n = T (between 1 24 n)

abbrev pub CaptionNumbered : {A : Type 0} → Read A → Type 0
CaptionNumbered (got a q) = Unit {0}
CaptionNumbered (unread n p) = CaptionListed n

-- Accepted, or refused by a listed number.
abbrev pub CaptionTold : {A : Type 0} → Result A → Type 0
CaptionTold (accepted x) = Unit {0}
CaptionTold (refused n p) = CaptionListed n

listed_too : (n : ℕ) → Listed n → CaptionListed n
listed_too n h =
    let w = between_is 1 23 n (is_true (between 1 23 n) h) in
    subst T (sym (between_in 1 24 n w.0 (omega (arith, w.1)))) tt
  where
    is_true : (b : Bool) → T b → b ≡ true
    is_true true k = refl
    is_true false k = absurd k

told_too : {A : Type 0} (R : Result A) → Told R → CaptionTold R
told_too (accepted x) h = tt
told_too (refused n p) h = listed_too n h

then_numbered : {A B : Type 0} (R : Read B) (K : B → ℕ → Read A) → CaptionNumbered R → ((b : B) (q : ℕ) → CaptionNumbered (K b q)) → CaptionNumbered (and_then R K)
then_numbered (got b q) K h f = f b q
then_numbered (unread n p) K h f = h

pick_numbered : {A : Type 0} (b : Bool) (X Y : Read A) → CaptionNumbered X → CaptionNumbered Y → CaptionNumbered (pick b (λ _. X) Y)
pick_numbered true X Y x y = x
pick_numbered false X Y x y = y

module _ (names : List (List ℕ)) (c : List ℕ) where
  caption_line_numbered : (at : List (Option ℕ)) (p : ℕ) → CaptionNumbered (caption_line names c at p)
  unfolding caption_line caption_form given_once
  caption_line_numbered at p =
      let x = find_name (name_part c p) names in
      then_numbered (caption_form c p) (λ v e. given_once at (length names) p (e + 1) x)
      (pick_numbered (eqb (peek c (run_end before_equals c p)) (byte "=") && between 1 most_caption_bytes (length (caption_at c (caption_place c p))) && lf_at c (caption_end c (caption_place c p)))
      (got (caption_place c p) (caption_end c (caption_place c p))) (unread 24 p) tt tt)
      (λ v e. pick_numbered (ltb x (length names)) (pick (is_some (get_or at x None)) (λ _. unread 24 p) (got x (e + 1))) (unread 12 p)
      (pick_numbered (is_some (get_or at x None)) (unread 24 p) (got x (e + 1)) tt tt) tt)

  caption_lines_numbered : (n : ℕ) (at : List (Option ℕ)) (p : ℕ) → CaptionNumbered (caption_lines names c n at p)
  unfolding caption_lines
  caption_lines_numbered zero at p = tt
  caption_lines_numbered (suc n) at p =
      pick_numbered (ltb p (length c)) (and_then (caption_line names c at p) (λ x q. caption_lines names c n (set at x (Some (caption_place c p))) q)) (got at p)
      (then_numbered (caption_line names c at p) _ (caption_line_numbered at p) (λ x q. caption_lines_numbered n (set at x (Some (caption_place c p))) q)) tt

  pub captions_numbered : CaptionNumbered (captions_in names c)
  unfolding captions_in
  captions_numbered = caption_lines_numbered (length c) (no_captions (length names)) 0

-- What passes a test is accepted, and else refused by a listed number.
pick_told : {A : Type 0} (b : Bool) (x : A) (n p : ℕ) → CaptionListed n → CaptionTold (pick b (λ _. accepted x) (refused n p))
pick_told true x n p h = tt
pick_told false x n p h = h

module _ (s : List ℕ) where
  captioned_told : (c places : List ℕ) (signal : ℕ) (R : Read (List (Option ℕ))) → CaptionNumbered R → CaptionTold (part_by s c places signal R)
  captioned_told c places signal (got at q) h = pick_told (ltb signal (length places)) (shown_part s c (get_or places signal 0) (get_or at signal None)) 17 0 tt
  captioned_told c places signal (unread n p) h = h

  part_told : (c : List ℕ) (signal : ℕ) (R : Result Contents) → CaptionTold R → CaptionTold (part_of s c signal R)
  part_told c signal (accepted k) h = captioned_told c k.places signal (captions_in (names_in s k) c) (captions_numbered (names_in s k) c)
  part_told c signal (refused n p) h = h

  pub caption_told : (c : List ℕ) (signal : ℕ) → CaptionTold (caption_part s c signal)
  unfolding caption_part
  caption_told c signal = part_told c signal (sheet_in s) (told_too (sheet_in s) (sheet_told s))

-- So 0 tells that a call of caption is accepted.
zero_tells : {A : Type 0} (values : A → List ℕ) (place : ℕ) (before : List ℕ) (x : Result A) → CaptionTold x → (answer_of (leaves values place before x) ≡ 0) ↔ Accepted x
zero_tells values place before (accepted x) h = (λ _. tt, λ _. refl)
zero_tells values place before (refused n p) h = (λ e. subst CaptionListed e h, λ b. absurd b)

pub caption_zero : (s : List ℕ) (place : ℕ) (before : List ℕ) {l : Left} (c : List ℕ) (signal : ℕ) → CaptionLeaves s c signal place before l → (answer_of l ≡ 0) ↔ Accepted (caption_part s c signal)
caption_zero s place before c signal e =
    subst (λ (k : Left). (answer_of k ≡ 0) ↔ Accepted (caption_part s c signal)) (sym e) (zero_tells part_values place before (caption_part s c signal) (caption_told s c signal))
