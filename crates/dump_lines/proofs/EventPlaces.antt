-- An event that was read: where its line ends, and what numbers it can say.
-- Assumes nothing.
use mathlib.Core.Path.{◌≡◌, refl, subst}
use mathlib.Core.Bool.{Bool, true, false}
use mathlib.Core.List.{List}
use Prim.Native.Nat.{ℕ, suc, ◌-◌, ◌<◌, ◌≤◌}
use native.Mathlib.Omega.{arith}
use borrow.Author.Tests.{ltb-true}
use lib.Dec.{ltb}
use lib.ListN.{length}
use Rattle.read_bytes.specs.Read.Read.{got}
use Rattle.read_bytes.specs.Bytes.{bytes, pick, starts}
use Rattle.read_bytes.proofs.Answers.{through, came}
use Rattle.read_lines.specs.Lines.{ranged_line}
use Rattle.read_lines.proofs.KeyedLines.{ranged_past}
use Rattle.spec_dump.specs.DumpTexts.{Event, time, sign}
use Rattle.spec_dump.specs.DumpLines.{sign_line, time_line, asked, event_at}
use Rattle.dump_lines.proofs.SignLines.{OneSign, sign_got}
use Rattle.dump_lines.proofs.EventAnswers.{asked_more}

-- A time of the window, after u.
pub record TimeFits (W u t : ℕ) : Type 0 where
  pub rises : u < t
  pub ticks : t < W

-- A sign b of one of N signals, from k on.
pub record SignFits (N k x b : ℕ) : Type 0 where
  pub low : k ≤ x
  pub high : x < N
  pub one : OneSign b

-- What an event can say after the time u, where k is the first signal that may follow at it.
abbrev pub Fits : ℕ → ℕ → ℕ → ℕ → Event → Type 0
Fits W N u k (time t) = TimeFits W u t
Fits W N u k (sign x b) = SignFits N k x b

-- The event e was read in the bytes from p to q.
pub record EventGot (W N : ℕ) (d : List ℕ) (u k p : ℕ) (e : Event) (q : ℕ) : Type 0 where
  pub ahead : p < q
  pub inside : q ≤ length d
  pub fits : Fits W N u k e

module _ (W N : ℕ) (d : List ℕ) (u k p : ℕ) {e : Event} {q : ℕ} where
  time_got : 1 ≤ W → time_line W d u p ≡ got e q → EventGot W N d u k p e q
  unfolding time_line
  time_got some h =
      let c = came (ranged_line d p (bytes "#") 22 13 0 (W - 1)) _ h in
      let w = ranged_past d p (bytes "#") 22 13 0 (W - 1) c.first in
      let t = through (ltb u c.value) (time c.value) c.place 22 p c.then in
      record {
        ahead = omega (arith, t.2, w.0.ahead);
        inside = omega (arith, t.2, w.0.inside);
        fits = subst (Fits W N u k) t.1 (record { rises = ltb-true u c.value t.0; ticks = omega (arith, w.2) });
      }

  signed : (hi : ℕ) → hi ≤ N → sign_line d k hi p ≡ got e q → EventGot W N d u k p e q
  signed hi l h =
      let w = sign_got d k hi p h in
      record {
        ahead = omega (arith, w.next);
        inside = w.inside;
        fits = subst (Fits W N u k) w.is (record { low = w.low; high = omega (arith, w.high); one = w.one });
      }

  -- Every event that is read.
  pub event_got : 1 ≤ W → event_at W N d u k p ≡ got e q → EventGot W N d u k p e q
  unfolding event_at
  event_got some h = go (asked N u k) (starts d p (bytes "#")) refl h
    where
      go : (a s : Bool) → asked N u k ≡ a → pick a (λ _. sign_line d k (suc k) p) (pick s (λ _. time_line W d u p) (sign_line d k N p)) ≡ got e q → EventGot W N d u k p e q
      go true s f g = signed (suc k) (asked_more N u k f) g
      go false true f g = time_got some g
      go false false f g = signed N (omega arith) g
