-- `write_by_name` meets its contract. Assumes nothing.
use mathlib.Core.Path.{sym, ap, subst}
use Prim.Native.Nat.{◌<◌}
use lib.ListN.{length}
use Rattle.read_names.specs.Spellings.{names_at}
use Rattle.spec_tilco.specs.Lists.{All}
use Rattle.write_bytes.specs.Writes.{Counted}
use Rattle.write_bytes.proofs.Writing.{like}
use Rattle.list_order.proofs.Inserting.{order_placed}
use Rattle.list_signals.specs.Signals.{signals_text}
use Rattle.list_table.proofs.whole.write_by_name.Goals as goal

pub write_signals-requires : goal.write_signals-requires
write_signals-requires c =
    let names = names_at c.args.s.now c.args.places.now in (
      c.requires.1,
      subst (All (λ x. x < length c.args.places.now)) (sym c.signals_in_order.ensures) (order_placed c.args.s.now c.args.places.now),
      λ f. subst (λ xs. Counted c.args.w.now.used (signals_text c.args.window f names xs)) (sym c.signals_in_order.ensures) (c.requires.2 f),
    )

pub returns : goal.returns
returns c =
    λ f a. like (ap (signals_text c.args.window f (names_at c.args.s.now c.args.places.now)) (sym c.signals_in_order.ensures)) (c.write_signals.ensures f a)
