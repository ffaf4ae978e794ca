-- `write_shown_by_name` meets its contract. Assumes nothing.
use mathlib.Core.Path.{sym, ap, subst}
use Prim.Native.Nat.{◌<◌}
use lib.ListN.{length}
use Rattle.read_captions.specs.Parts.{shown_texts}
use Rattle.spec_tilco.specs.Lists.{All}
use Rattle.write_bytes.specs.Writes.{Counted}
use Rattle.write_bytes.proofs.Writing.{like}
use Rattle.list_order.proofs.Inserting.{order_placed}
use Rattle.list_signals.specs.Signals.{signals_text}
use Rattle.list_captioned.proofs.whole.write_shown_by_name.Goals as goal

pub write_shown_signals-requires : goal.write_shown_signals-requires
write_shown_signals-requires c = (
  c.requires.1,
  c.requires.2,
  subst (All (λ x. x < length c.args.places.now)) (sym c.signals_in_order.ensures) (order_placed c.args.s.now c.args.places.now),
  λ f. subst (λ xs. Counted c.args.w.now.used (signals_text c.args.window f (shown_texts c.args.s.now c.args.c.now c.args.places.now c.args.captions.now) xs)) (sym c.signals_in_order.ensures) (c.requires.3 f),
)

pub returns : goal.returns
returns c =
    λ f a. like (ap (signals_text c.args.window f (shown_texts c.args.s.now c.args.c.now c.args.places.now c.args.captions.now)) (sym c.signals_in_order.ensures)) (c.write_shown_signals.ensures f a)
