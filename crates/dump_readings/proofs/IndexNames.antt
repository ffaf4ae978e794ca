-- The names of an index, by the part of it that has their places: they are short and few, and what is said of the part's names is said of the index's.
-- Assumes nothing. T is an index of the sheet text s.
use mathlib.Core.Path.{◌≡◌, ap, ◌∙◌}
use mathlib.Core.List.{List}
use Prim.Native.Nat.{ℕ, suc, ◌≤◌}
use native.Mathlib.Omega.{arith}
use lib.ListN.{length, take, drop, length-drop}
use Rattle.std.specs.Prelude.{Result}
use Rattle.spec_refusals.specs.Numbers.{Refusal}
use Rattle.spec_limits.specs.Limits.{most_signals, most_name_bytes}
use Rattle.spec_tilco.proofs.Lists.{all_weaker}
use Rattle.read_names.specs.Spellings.{names_at}
use Rattle.read_names.proofs.Names.{names_many}
use Rattle.read_index.specs.NameTexts.{NameText}
use Rattle.read_index.specs.Index.{links, name_count, names_in, IndexOf}
use Rattle.read_index.proofs.Places.{places_part_lem}
use Rattle.spec_dump.specs.DumpLines.{events_from}
use Rattle.dump_readings.specs.HeldSigns.{CanHold}
use Rattle.dump_readings.specs.TakenEvents.{EventsTaken}

-- The part with the places.
abbrev pub places_part : List ℕ → List ℕ
places_part T = take (name_count T) (drop links T)

module _ (s T : List ℕ) where
  places_length : length (places_part T) ≡ name_count T
  places_length = ap length (places_part_lem T) ∙ length-drop links T

  pub few_names : IndexOf s T → length (places_part T) ≤ most_signals
  few_names i = omega (arith, places_length, i.few)

  pub can_hold : IndexOf s T → {signs : List ℕ} → length signs ≡ most_signals → CanHold (names_at s (places_part T)) signs
  can_hold i l = record {
    few = omega (arith, names_many s (places_part T), few_names i);
    short = rw places_part_lem (all_weaker NameText (λ w. length w ≤ most_name_bytes) (λ w n. n.short) (names_in s T) i.known);
    signed = omega (arith, names_many s (places_part T), few_names i);
  }

  pub of_index : (W : ℕ) (d : List ℕ) (p : ℕ) {m m' : List ℕ} {r : Result ℕ Refusal} → EventsTaken (events_from W (length (places_part T)) d (suc (length d)) 0 0 p) (names_at s (places_part T)) W m m' r
      → EventsTaken (events_from W (name_count T) d (suc (length d)) 0 0 p) (names_in s T) W m m' r
  of_index W d p t = rw (places_length, places_part_lem) at t
