-- For every dump that is read there is a table that holds just its readings.
-- Assumes nothing. `s` is the sheet's text, d the dump, r the text of its readings, ms marks.
use mathlib.Core.Path.{◌≡◌, refl, ◌∙◌}
use mathlib.Core.List.Memᴰ
use mathlib.Core.List.{List, [], ◌∷◌}
use mathlib.Core.Logic.{inr, ⊎_elim}
use Prim.Native.Nat.{ℕ, suc, ◌+◌, ◌*◌, ◌/◌, ◌%◌, ◌^◌, ◌<◌, ◌≤◌}
use native.Mathlib.Nat.{mul-le-mul_right, suc-mul}
use native.Mathlib.Omega.{arith}
use lib.Bits.{bit_or, or_lt}
use lib.ListN.{length, get_or, set, length-set, length-replicate}
use lib.Pow.{pow-lt}
use Rattle.spec_ticks.specs.Ticks.{block, Small}
use Rattle.spec_ticks.proofs.Tables.{block_high, empty_small, empty_bare}
use Rattle.spec_tilco.specs.Formula.{Sheet}
use Rattle.spec_tilco.specs.Lists.{All}
use Rattle.spec_tilco.specs.Inference.{Mark, mark}
use Rattle.spec_tilco.specs.Lowering.{row_count_lem}
use Rattle.spec_tilco.specs.Table.{words, Standing, table_words, ReadMarks, InRange}
use Rattle.spec_tilco.proofs.Lists.{all_of_lem}
use Rattle.spec_tilco.proofs.Order.{row_count}
use Rattle.table_marks.specs.Puts.{Puts}
use Rattle.table_marks.proofs.Marks.{gains_then, puts_none, puts_word}
use Rattle.read_sheet.specs.Sheet.{meant}
use Rattle.read_reading.specs.Spans.{marks_of_all}
use Rattle.open_sheet.specs.SheetIn.{blank}
use Rattle.proof_demands.proofs.Closable.{small_set, covers}
use Rattle.proof_dump.specs.DumpReadings.{DumpRead, HoldsJust}
use Rattle.proof_dump.proofs.ReadingTexts.{text_marks}

-- Marks of declared signals at ticks of the window can be put into a sheet's table, one after the other.
puts_all : (v : Sheet) (ms : List Mark) (U : List ℕ) → length U ≡ table_words v → Small 64 U → All (InRange v) ms → (X : List ℕ) × Puts (words v.window) ms U X × Small 64 X
puts_all v [] U long small in_range_lem = (U, puts_none (words v.window) U, small)
puts_all v (mark x t b ∷ ms) U long small in_range_lem =
    let n = words v.window in
    let i = block x b * n + t / 64 in
    let w = bit_or (get_or U i 0) (2 ^ (t % 64)) in
    let low : t % 64 < 64 = omega arith in
    let below : t < n * 64 = omega (arith, covers v.window, in_range_lem.0.1) in
    let a : suc (block x b) * n ≤ 2 * row_count_lem v * n = mul-le-mul_right n (omega (arith, block_high x b, in_range_lem.0.0, row_count v)) in
    let inside : i < length U = omega (arith, suc-mul (block x b) n) in
    let p = puts_word n U x t b below i w refl inside refl in
    let r = puts_all v ms (set U i w) (length-set U i w ∙ long) (small_set U i w inside (or_lt 64 (get_or U i 0) (2 ^ (t % 64)) (small i) (pow-lt low)) small) in_range_lem.1 in
    let m = mark x t b in
    (r.0, gains_then n (ReadMarks (m ∷ [])) (ReadMarks ms) (ReadMarks (m ∷ ms)) (λ z. (⊎_elim (Memᴰ.append_left ms) (Memᴰ.append_right (m ∷ [])), Memᴰ.append_cases (m ∷ []))) p r.1, r.2)

module _ {s d r : List ℕ} (x : DumpRead s d r) where
  in_sheet_range : (m : Mark) → ReadMarks (marks_of_all x.said.list) m → InRange (meant x.contents) m
  in_sheet_range (mark y t v) i = let z = (text_marks x.said y t v).0 i in (z.0, z.1)

  -- Its words have 64 bits.
  pub just_some : (T : List ℕ) × Small 64 T × HoldsJust s T x.contents (marks_of_all x.said.list)
  just_some =
      let k = x.contents in
      let ms = marks_of_all x.said.list in
      let long = length-replicate {A = ℕ} (table_words (meant k)) 0 in
      let ranged = all_of_lem (InRange (meant k)) ms in_sheet_range in
      let p = puts_all (meant k) ms (blank k) long (empty_small 64 (table_words (meant k))) ranged in
      let only : (m : Mark) → Standing (meant k) p.0 m → ReadMarks ms m = λ m i. ⊎_elim (none m) (λ j. j) ((p.1.exactly m).0 i) in (
        p.0,
        p.2,
        record {
          taken = record { sheet = x.sheet; long = p.1.size ∙ long; inside = λ y t v i. (in_sheet_range (mark y t v) (only (mark y t v) i)).1 };
          marks = λ m. (only m, λ j. (p.1.exactly m).1 (inr j));
        },
      )
    where
      none : (m : Mark) → Standing (meant x.contents) (blank x.contents) m → ReadMarks (marks_of_all x.said.list) m
      none (mark y t v) i = absurd (empty_bare 64 (words x.contents.window) (table_words (meant x.contents)) y t v i)
