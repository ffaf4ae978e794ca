-- The head of a sheet: each answer of its reader, what is in an accepted head, and what an answer says.
-- Assumes nothing.
use mathlib.Core.Path.{◌≡◌, subst}
use mathlib.Core.List.{List, []}
use Prim.Native.Nat.{ℕ, ◌≤◌}
use native.Mathlib.Omega.{arith}
use lib.ListN.{length}
use Rattle.spec_limits.specs.Limits.{most_rules, most_signals, most_ticks}
use Rattle.read_bytes.specs.Read.Read.{got, refused}
use Rattle.read_bytes.specs.Bytes.{bytes}
use Rattle.read_lines.specs.Lines.{ranged_line, in_turn}
use Rattle.read_bytes.proofs.Answers.{same_value, same_place, came}
use Rattle.read_lines.proofs.KeyedLines.{ranged_past}
use Rattle.spec_tilco.specs.Lists.{All}
use Rattle.read_head.specs.SheetHead.{signal_line, Head, head_of, head, Sizes}
use Rattle.read_head.proofs.Signals.{signal_lines, up_to_lem}

-- The refusal of a line is the head's, once those before it are accepted; four accepted parts are a head.
module _ (s : List ℕ) where
  -- the window's line is refused
  pub refused_window : {k p : ℕ} → ranged_line s 0 (bytes "window=") 2 3 1 most_ticks ≡ refused k p → head s ≡ refused k p
  unfolding head
  refused_window a = rw a

  module _ {w p : ℕ} (a : ranged_line s 0 (bytes "window=") 2 3 1 most_ticks ≡ got w p) where
    -- the signals' number is refused
    pub refused_signals : {k x : ℕ} → ranged_line s p (bytes "signals=") 2 3 1 most_signals ≡ refused k x → head s ≡ refused k x
    unfolding head
    refused_signals b = rw (a, b)

    module _ {n q : ℕ} (b : ranged_line s p (bytes "signals=") 2 3 1 most_signals ≡ got n q) where
      -- a signal's line is refused
      pub refused_signal : {k x : ℕ} → in_turn (signal_line s) n [] q ≡ refused k x → head s ≡ refused k x
      unfolding head
      refused_signal d = rw (a, b, d)

      module _ {t : List ℕ} {u : ℕ} (d : in_turn (signal_line s) n [] q ≡ got t u) where
        -- the rules' number is refused
        pub refused_rules : {k x : ℕ} → ranged_line s u (bytes "rules=") 2 3 0 most_rules ≡ refused k x → head s ≡ refused k x
        unfolding head
        refused_rules e = rw (a, b, d, e)

        -- all are accepted
        pub head_is : {m x : ℕ} → ranged_line s u (bytes "rules=") 2 3 0 most_rules ≡ got m x → head s ≡ got (head_of w t m) x
        unfolding head
        head_is e = rw (a, b, d, e)

-- An accepted head: its numbers are in their ranges, the first rule's line is in the text, and the names stand before it.
pub record HeadPast (s : List ℕ) (h : Head) (p : ℕ) : Type 0 where
  pub inside : p ≤ length s
  pub before : All (λ v. v ≤ p) h.places
  pub sizes : Sizes h.window (length h.places) h.count

-- Each accepted head is so.
pub head_past : (s : List ℕ) {h : Head} {p : ℕ} → head s ≡ got h p → HeadPast s h p
unfolding head
head_past s {h} {p} e =
    let a = came (ranged_line s 0 (bytes "window=") 2 3 1 most_ticks) _ e in
    let b = came (ranged_line s a.place (bytes "signals=") 2 3 1 most_signals) _ a.then in
    let d = came (in_turn (signal_line s) b.value [] b.place) _ b.then in
    let f = came (ranged_line s d.place (bytes "rules=") 2 3 0 most_rules) _ d.then in
    let i = ranged_past s 0 (bytes "window=") 2 3 1 most_ticks a.first in
    let j = ranged_past s a.place (bytes "signals=") 2 3 1 most_signals b.first in
    let k = signal_lines s b.value [] b.place j.0.inside tt d.first in
    let l = ranged_past s d.place (bytes "rules=") 2 3 0 most_rules f.first in
    let m : head_of a.value d.value f.value ≡ h = same_value f.then in
    let n : f.place ≡ p = same_place f.then in
    let o : d.place ≤ f.place = omega (arith, l.0.ahead) in
    let was : HeadPast s (head_of a.value d.value f.value) f.place = record {
      inside = l.0.inside;
      before = up_to_lem o d.value k.before;
      sizes = record {
        window_low = i.1;
        window_high = i.2;
        signals_low = omega (arith, k.many, j.1);
        signals_high = omega (arith, k.many, j.2);
        rules_high = l.2;
      };
    } in
    subst (HeadPast s h) n (subst (λ (x : Head). HeadPast s x f.place) m was)
