-- `write_signals` meets its contract. The invariant: the signals from `signal-index` on are left to be written. Assumes nothing.
use borrow.Author.Rules.{rules}
use native.Mathlib.Omega.{arith}
use mathlib.Core.Path.{refl, sym}
use Prim.Native.Nat.{◌<◌}
use lib.ListN.{length, get_or}
use Rattle.read_names.specs.Spellings.{names_at}
use Rattle.read_names.proofs.Names.{names_at_lem}
use Rattle.spec_tilco.proofs.Lists.{all_nth}
use Rattle.write_bytes.proofs.Writing.{counted_like, counted_first}
use Rattle.write_bytes.proofs.Leaves.{left_all, left_rest, left_none}
use Rattle.list_signals.proofs.Answered.{answers_there}
use Rattle.list_signals.proofs.Counting.{signals_counted}
use Rattle.list_signals.proofs.Signs.{fewer, signals_next, signals_end, named_counted, named_written}
use Rattle.list_signals.proofs.write_signals.Goals as goal

pub loop-signal-init : goal.loop-signal-init
loop-signal-init c =
    (λ f a. left_all refl, λ f. c.requires.2 f)

pub offset_bounds-places-x : goal.offset_bounds-places-x
offset_bounds-places-x c =
    search (rules, all_nth (λ x. x < length c.args.places.now) 0 c.args.signals.now c.loop-signal.signal-index c.requires.1 (omega arith))

pub bounds-places-x : goal.bounds-places-x
bounds-places-x c =
    all_nth (λ x. x < length c.args.places.now) 0 c.args.signals.now c.loop-signal.signal-index c.requires.1 (omega arith)

pub write_signal-requires : goal.write_signal-requires
write_signal-requires c =
    let signal = all_nth (λ x. x < length c.args.places.now) 0 c.args.signals.now c.loop-signal.signal-index c.requires.1 (omega arith) in
    let name = names_at_lem c.args.s.now c.args.places.now _ signal in
    let names = names_at c.args.s.now c.args.places.now in (
      fewer _ _ (omega (arith, signal)) (omega arith) c.requires.0,
      λ f. named_counted (sym name) _ (counted_first _ (counted_like (c.loop-signal.invariant.1 (λ x. f)) (signals_next names c.args.signals.now c.args.window (λ x. f) c.loop-signal.signal-index (omega arith)))),
    )

pub loop-signal-preserved : goal.loop-signal-preserved
loop-signal-preserved c =
    let i = c.loop-signal.signal-index in
    let x = get_or c.args.signals.now i 0 in
    let signal = all_nth (λ x. x < length c.args.places.now) 0 c.args.signals.now i c.requires.1 (omega arith) in
    let name = names_at_lem c.args.s.now c.args.places.now x signal in
    let names = names_at c.args.s.now c.args.places.now in
    let g = answers_there c.requires.0 x in (
      λ f a. left_rest _ (c.loop-signal.invariant.0 f a) (named_written (sym name) _ (c.write_signal.ensures (f x) (a x signal))) (signals_next names c.args.signals.now c.args.window f i (omega arith)),
      λ f. signals_counted names c.args.signals.now c.args.window f i (omega arith) (c.loop-signal.invariant.1 f) g.0 (named_written (sym name) _ (c.write_signal.ensures g.0 g.1)),
    )

pub returns : goal.returns
returns c =
    λ f a. left_none (c.loop-signal.invariant.0 f a) (signals_end (names_at c.args.s.now c.args.places.now) c.args.signals.now c.args.window f c.loop-signal.signal-index (omega arith))
