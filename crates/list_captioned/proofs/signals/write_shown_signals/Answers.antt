-- `write_shown_signals` meets its contract. The invariant: the signals from `signal-index` on are left to be written. Assumes nothing.
use native.Mathlib.Omega.{arith}
use mathlib.Core.Path.{refl}
use Prim.Native.Nat.{◌<◌}
use lib.ListN.{length, get_or}
use Rattle.spec_tilco.proofs.Lists.{all_nth}
use Rattle.read_captions.specs.Parts.{shown_texts}
use Rattle.write_bytes.proofs.Writing.{counted_like, counted_first}
use Rattle.write_bytes.proofs.Leaves.{left_all, left_rest, left_none}
use Rattle.list_signals.proofs.Answered.{answers_there}
use Rattle.list_signals.proofs.Counting.{signals_counted}
use Rattle.list_signals.proofs.Signs.{fewer, signals_next, signals_end, named_counted, named_written}
use Rattle.list_captioned.proofs.signals.write_shown_signals.Goals as goal

pub loop-signal-init : goal.loop-signal-init
loop-signal-init c =
    (λ f a. left_all refl, λ f. c.requires.3 f)

pub shown_text-shown-requires : goal.shown_text-shown-requires
shown_text-shown-requires c =
    (c.requires.1, all_nth (λ x. x < length c.args.places.now) 0 c.args.signals.now c.loop-signal.signal-index c.requires.2 (omega arith))

pub write_shown_signal-requires : goal.write_shown_signal-requires
write_shown_signal-requires c =
    let signal = all_nth (λ x. x < length c.args.places.now) 0 c.args.signals.now c.loop-signal.signal-index c.requires.2 (omega arith) in
    let names = shown_texts c.args.s.now c.args.c.now c.args.places.now c.args.captions.now in
    (fewer _ _ (omega (arith, signal)) (omega arith) c.requires.0, λ f. named_counted c.shown_text-shown.ensures _ (counted_first _ (counted_like (c.loop-signal.invariant.1 (λ x. f)) (signals_next names c.args.signals.now c.args.window (λ x. f) c.loop-signal.signal-index (omega arith)))))

pub loop-signal-preserved : goal.loop-signal-preserved
loop-signal-preserved c =
    let signal = all_nth (λ x. x < length c.args.places.now) 0 c.args.signals.now c.loop-signal.signal-index c.requires.2 (omega arith) in
    let x = get_or c.args.signals.now c.loop-signal.signal-index 0 in
    let g = answers_there c.requires.0 x in
    let names = shown_texts c.args.s.now c.args.c.now c.args.places.now c.args.captions.now in (
      λ f a. left_rest _ (c.loop-signal.invariant.0 f a) (named_written c.shown_text-shown.ensures _ (c.write_shown_signal.ensures (f x) (a x signal))) (signals_next names c.args.signals.now c.args.window f c.loop-signal.signal-index (omega arith)),
      λ f. signals_counted names c.args.signals.now c.args.window f c.loop-signal.signal-index (omega arith) (c.loop-signal.invariant.1 f) g.0 (named_written c.shown_text-shown.ensures _ (c.write_shown_signal.ensures g.0 g.1)),
    )

pub returns : goal.returns
returns c =
    λ f a. left_none (c.loop-signal.invariant.0 f a) (signals_end (shown_texts c.args.s.now c.args.c.now c.args.places.now c.args.captions.now) c.args.signals.now c.args.window f c.loop-signal.signal-index (omega arith))
