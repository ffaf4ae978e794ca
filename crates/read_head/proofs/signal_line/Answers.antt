-- `signal_line` meets its contract. Assumes nothing.
use native.Mathlib.Omega.{arith}
use mathlib.Core.Path.{◌≡◌, sym, subst, ◌∙◌}
use borrow.Author.Rules.{rules}
use Prim.Native.Nat.{ℕ, ◌<◌}
use Rattle.std.specs.Prelude.{Err}
use Rattle.read_index.specs.Index.{slots}
use Rattle.read_bytes.proofs.Answers.{hand_on}
use Rattle.read_index.proofs.Slots.{slot_below}
use Rattle.read_head.specs.SheetHead.{signal_line}
use Rattle.read_head.proofs.Signals.{signal_new, signal_twice, name_line_lem}
use Rattle.read_head.proofs.NamesPut.{places_long, put_more, line_text_lem}
use Rattle.read_head.proofs.signal_line.Goals as goal

pub returns-in_err-v : goal.returns-in_err-v
unfolding signal_line
returns-in_err-v c =
    let refused : c.from_residual.result ≡ Err c.in_err-v.field-0.0 = search rules in
    rw refused (sym (hand_on _ (sym c.in_err-v.ensures)))

pub find-f-requires : goal.find-f-requires
find-f-requires c =
    let w = name_line_lem _ _ (sym c.in_ok-v.ensures) in
    (c.requires.0.index, omega (arith, w.name, w.past.inside))

pub put_name-requires : goal.put_name-requires
put_name-requires c =
    let w = name_line_lem _ _ (sym c.in_ok-v.ensures) in
    (subst (λ (b : ℕ). b < slots) (sym c.find-f.ensures.slot) (slot_below _), omega (arith, c.requires.0.room), omega arith, omega (arith, w.name, w.past.inside))

pub returns-then-f-count : goal.returns-then-f-count
returns-then-f-count c =
    let asked = c.requires in
    let a = sym c.in_ok-v.ensures in
    let put = put_more _ asked.0 asked.1 (line_text_lem _ _ a) c.find-f.ensures.slot c.put_name.ensures in
    record {
      line = sym (signal_new _ _ _ a _ c.find-f.ensures.found (c.if-f-count.true ∙ sym (places_long asked.0)));
      put = put.0;
      places = put.1;
    }

pub returns-else-f-count : goal.returns-else-f-count
returns-else-f-count c =
    sym (signal_twice _ _ _ (sym c.in_ok-v.ensures) _ c.find-f.ensures.found (λ e. c.if-f-count.false (e ∙ places_long c.requires.0)))
