-- `note_entries` meets its contract. The invariant: the loop over the entries stands at `at`, the array's first numbers are those read, and each had 22 bytes.
-- Assumes nothing.
use native.Mathlib.Omega.{arith}
use mathlib.Core.Path.{◌≡◌, refl, sym, ap, ◌∙◌}
use borrow.Author.Rules.{rules}
use Rattle.std.specs.Prelude.{Err}
use Prim.Native.Nat.{◌<◌}
use lib.ListN.{length, length-set}
use Rattle.read_bytes.specs.Read.Read.{got}
use Rattle.read_index.proofs.Places.{names_in_many}
use Rattle.read_readings.specs.SpanNumbers.{spans_in}
use Rattle.read_readings.specs.SpanNumbers.EntriesNoted.{all_noted, refused_at}
use Rattle.read_reading.proofs.Lines.{entry_within, entry_ahead, entry_long}
use Rattle.read_readings.proofs.Turns.{passed_none, passed_one, passed_off, passed_all, entries_long, entries_short, of_form}
use Rattle.read_readings.proofs.Numbers.{spans_more}
use Rattle.read_readings.proofs.whole.note_entries.Goals as goal

pub returns-then-r-gt-BYTES : goal.returns-then-r-gt-BYTES
returns-then-r-gt-BYTES c = refused_at _ (entries_long _ _ _ c.if-r-gt-BYTES.true)

pub loop-at-init : goal.loop-at-init
unfolding spans_in
loop-at-init c = (refl, omega arith, passed_none _ _)

pub entry_at-requires : goal.entry_at-requires
entry_at-requires c =
    (c.requires.index, c.requires.some, c.loop-at.invariant.2.inside)

pub returns-in_err-entry : goal.returns-in_err-entry
returns-in_err-entry c =
    let refused : c.from_residual.result ≡ Err c.in_err-entry.field-0.0 = search rules in
    let e = passed_off _ _ c.loop-at.invariant.2 c.loop-at-test.true (sym c.in_err-entry.ensures) in
    rw refused
    (refused_at _ (entries_short _ _ _ c.if-r-gt-BYTES.false ∙ of_form _ _ _ _ c.starts_at-spans.ensures e))

pub number_of-requires : goal.number_of-requires
number_of-requires c =
    let a = sym c.in_ok-entry.ensures in
    let w = entry_within _ _ _ _ _ (omega arith) a in
    let many = names_in_many c.args.s.now c.args.names.now in
    (omega (arith, many, w.signal, c.requires.index.few), omega (arith, w.order, w.ticks), omega (arith, w.ticks))

pub bounds-noted-count : goal.bounds-noted-count
bounds-noted-count c =
    let a = sym c.in_ok-entry.ensures in
    omega (arith, c.loop-at.invariant.0, c.loop-at.invariant.1, entry_long _ _ _ _ _ a, (entry_ahead _ _ _ _ _ a).inside, c.if-r-gt-BYTES.false, c.requires.room)

pub loop-at-smaller : goal.loop-at-smaller
loop-at-smaller c =
    let a = sym c.in_ok-entry.ensures in
    let w = entry_ahead _ _ _ _ _ a in
    omega (arith, w.ahead, w.inside)

pub loop-at-preserved : goal.loop-at-preserved
loop-at-preserved c =
    let a = sym c.in_ok-entry.ensures in
    let w = entry_ahead _ _ _ _ _ a in
    let z = c.loop-at.invariant in
    let u = entry_long _ _ _ _ _ a in
    let l : c.loop-at.count < length c.loop-at.noted = omega (arith, z.0, z.1, u, w.inside, c.if-r-gt-BYTES.false, c.requires.room) in
    (simp length-set z.0, omega (arith, z.1, u), rw (spans_more _ _ l _ c.number_of.ensures) (passed_one _ _ z.2 c.loop-at-test.true a w))

pub returns : goal.returns
returns c =
    let z = c.loop-at.invariant in
    let end : c.loop-at.at ≡ length c.args.r.now = omega (arith, z.2.inside) in
    all_noted c.loop-at.count (omega (arith, z.0, z.1, z.2.inside, c.if-r-gt-BYTES.false, c.requires.room))
    (entries_short _ _ _ c.if-r-gt-BYTES.false ∙ of_form _ _ _ _ c.starts_at-spans.ensures (passed_all _ _ z.2 (omega arith) ∙ ap (got (spans_in c.loop-at.noted c.loop-at.count)) end))
