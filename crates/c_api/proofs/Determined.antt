-- Any two outcomes allowed for one call coincide: what it leaves, add's table, the buffer of a text, and the work table and the records of figures.
-- Assumes nothing.
use mathlib.Core.Path.{◌≡◌, sym, ap, ◌∙◌}
use mathlib.Core.Bool.{Bool}
use mathlib.Core.List.{List, []}
use Prim.Native.Nat.{ℕ}
use Rattle.open_sheet.specs.Results.{Result}
use Rattle.spec_operations.proofs.Determined.{adds_one, asks_one}
use Rattle.spec_moves.proofs.Determined.{moves_one}
use Rattle.spec_print.proofs.Determined.{prints_one}
use Rattle.spec_dump.proofs.Determined.{writes_one, reads_one}
use Rattle.spec_figures.specs.declared.Record.{Record}
use Rattle.spec_figures.proofs.Determined.{figures_one}
use Rattle.op_figures.specs.Reports.{records_after}
use Rattle.c_api.specs.Leaves.{Left, leaves, one_value_lem, gain_values, answer_values, no_values, CheckLeaves, AddLeaves, AskLeaves, TextLeaves, MoveLeaves, PrintLeaves, WriteDumpLeaves, ReadDumpLeaves, CaptionLeaves, FigureLeaves}

module _ (s : List ℕ) (place : ℕ) (before : List ℕ) {l l' : Left} where
  pub check_leaves_one : CheckLeaves s place before l → CheckLeaves s place before l' → l ≡ l'
  check_leaves_one e f = e ∙ sym f

  pub add_leaves_one : {r T U U' : List ℕ} → AddLeaves s r T U place before l → AddLeaves s r T U' place before l' → (U ≡ U') × (l ≡ l')
  add_leaves_one (x, a, e) (y, b, f) = let o = adds_one a b in (o.0, e ∙ ap (leaves gain_values place before) o.1 ∙ sym f)

  pub ask_leaves_one : {T : List ℕ} {signal tick : ℕ} → AskLeaves s T signal tick place before l → AskLeaves s T signal tick place before l' → l ≡ l'
  ask_leaves_one (x, a, e) (y, b, f) = e ∙ ap (leaves answer_values place before) (asks_one a b) ∙ sym f

  -- Of calls that write a text.
  text_leaves_one : {P Q : Result ℕ → Type 0} {O' O'' : List ℕ} → ((x y : Result ℕ) → P x → Q y → (O' ≡ O'') × (x ≡ y)) → TextLeaves P place before l → TextLeaves Q place before l' → (O' ≡ O'') × (l ≡ l')
  text_leaves_one same (x, a, e) (y, b, f) = let o = same x y a b in (o.0, e ∙ ap (leaves one_value_lem place before) o.1 ∙ sym f)

  pub move_leaves_one : {spans : Bool} {r O O' O'' : List ℕ} → MoveLeaves spans s r O O' place before l → MoveLeaves spans s r O O'' place before l' → (O' ≡ O'') × (l ≡ l')
  move_leaves_one c d = text_leaves_one (λ x y. moves_one) c d

  pub print_leaves_one : (rule : ℕ) {O O' O'' : List ℕ} → PrintLeaves s rule O O' place before l → PrintLeaves s rule O O'' place before l' → (O' ≡ O'') × (l ≡ l')
  print_leaves_one rule c d = text_leaves_one (λ x y. prints_one s rule) c d

  pub write_dump_leaves_one : {T O O' O'' : List ℕ} → WriteDumpLeaves s T O O' place before l → WriteDumpLeaves s T O O'' place before l' → (O' ≡ O'') × (l ≡ l')
  write_dump_leaves_one c d = text_leaves_one (λ x y. writes_one) c d

  pub read_dump_leaves_one : (dump : List ℕ) {O O' O'' : List ℕ} → ReadDumpLeaves s dump O O' place before l → ReadDumpLeaves s dump O O'' place before l' → (O' ≡ O'') × (l ≡ l')
  read_dump_leaves_one dump c d = text_leaves_one (λ x y. reads_one s dump) c d

  pub caption_leaves_one : (c : List ℕ) (signal : ℕ) → CaptionLeaves s c signal place before l → CaptionLeaves s c signal place before l' → l ≡ l'
  caption_leaves_one c signal e f = e ∙ sym f

  pub figure_leaves_one : {j ns T U U' : List ℕ} {X X' X'' : List Record} → FigureLeaves s j ns T U X X' place l → FigureLeaves s j ns T U' X X'' place l' → (U ≡ U') × (X' ≡ X'') × (l ≡ l')
  figure_leaves_one {X = X} (x, a, g, e) (y, b, h, f) =
      let o = figures_one a b in (o.0, g ∙ ap (records_after X) o.1 ∙ sym h, e ∙ ap (leaves no_values place []) o.1 ∙ sym f)
