-- What follows a plain part: an interval with its node and what follows that, or a refusal.
-- Assumes nothing.
use mathlib.Core.Path.{◌≡◌, refl, sym, ap, ◌∙◌}
use mathlib.Core.Bool.{true, false}
use mathlib.Core.List.{List}
use Prim.Native.Nat.{ℕ, ◌+◌, ◌-◌, ◌<◌, ◌≤◌}
use native.Mathlib.Omega.{arith}
use lib.Dec.{eqb}
use lib.ListN.{length}
use Rattle.spec_limits.specs.Limits.{most_offset}
use Rattle.read_bytes.specs.Read.{Read, and_then}
use Rattle.read_bytes.specs.Bytes.{byte, bytes, peek, one_of}
use Rattle.spec_tilco.specs.Formula.{Written, hiddens}
use Rattle.read_arena.specs.declared.Node.TheVariants.{Time}
use Rattle.read_arena.specs.Nodes.{put_node}
use Rattle.read_arena.specs.NodeRules.{Arena, NodeRoom, Held}
use Rattle.std.specs.Prelude.{Ok, Err}
use Rattle.spec_refusals.specs.Numbers.{Refusal}
use Rattle.read_interval.specs.Interval.{interval}
use Rattle.read_parts.specs.FormulaText.{offsets_then, times}
use Rattle.read_parts.specs.Parsed.{Answer, reached, PartReady, Parses}
use Rattle.read_parts.specs.Parsed.Parses.{refuses}
use Rattle.read_parts.specs.Promise.{AfterPart}
use Rattle.read_bytes.proofs.Places.{inside_test}
use Rattle.read_parts.proofs.Levels.{by, got_as, stop, over_offsets_lem}
use Rattle.read_parts.proofs.Rooms.{room_for, after_node}
use Rattle.read_parts.proofs.Steps.{timed_offsets, times_none, times_one}

-- No `@` and no `?` follows a part.
pub untimed : {a a' : List ℕ} {L e p m h x q u h' : ℕ} {R : Read Written} (s : List ℕ) (n : ℕ) → Parses a a' L e p m h x R (reached q u h') → one_of (peek s q) (bytes "@?") ≡ false
    → Parses a a' L e p m h x (and_then R (λ f y. times s n f y)) (reached q u h')
untimed {q = q} s n part none = got_as (λ f z. rw z (times_none s n f q none)) part

-- An interval with its node, and then what follows.
module _ (s : List ℕ) (n : ℕ) (f : Written) (p : ℕ) (sign : one_of (peek s p) (bytes "@?") ≡ true) (in_text : p < length s) (enough : length s ≤ p + n) where
  times_on : {a a₂ a' : List ℕ} {m h x first more q b : ℕ} {r : Answer} → b ≡ peek s p → interval s (p + 1) ≡ Ok (first, more, q) → p < q → 1 ≤ first → first + more ≤ most_offset → 0 < m
      → Arena m a → NodeRoom a m 1 → Held a x (m - 1) f → h ≡ x + hiddens f → a₂ ≡ put_node a m (Time (eqb b (byte "@")) (m - 1) first more)
      → ((g : Written) → Held a₂ x ((m + 1) - 1) g → h ≡ x + hiddens g → Parses a₂ a' (length s) 0 q (m + 1) h x (times s (n - 1) g q) r)
      → Parses a a' (length s) 0 p m h x (times s n f p) r
  times_on {a} {a₂} {a'} {m} {h} {x} {first} {more} {q} {b} {r} eb e pq low high some ar room he hs put next =
      by (times_one s n f p sign in_text enough ∙ ap (λ i. offsets_then i (λ first more q. times s (n - 1) (Written.time (eqb (peek s p) (byte "@")) first more f) q)) e)
      (over_offsets_lem a₂ p first more (eqb (peek s p) (byte "@")) f (times s (n - 1)) some pq low high ar room he hs (rw eb at put) (λ g hg hg' arg. next g hg hg'))

-- ---- the loop, one interval after the other

-- What is owed at place p after a part, whose node is the last one of m: whoever gives what follows it.
abbrev Owed : List ℕ → List ℕ → List ℕ → ℕ → ℕ → ℕ → Answer → Type 0
Owed s a a' p m h r =
    (n x : ℕ) (f : Written) → length s ≤ p + n → Held a x (m - 1) f → h ≡ x + hiddens f → Parses a a' (length s) 0 p m h x (times s n f p) r

-- The loop is at place p, with m nodes: what is owed there answers what was owed at its start.
pub record Timing (s a₀ : List ℕ) (p₀ m₀ h : ℕ) (a : List ℕ) (p m : ℕ) : Type 0 where
  pub ready : PartReady s a (Unit {0}) p m h
  pub some : 0 < m
  pub owed : (a' : List ℕ) (r : Answer) → Owed s a a' p m h r → Owed s a₀ a' p₀ m₀ h r

-- The loop starts.
pub timing_first : {s a : List ℕ} {p m h : ℕ} → AfterPart s a (Unit {0}) p m h → Timing s a p m h a p m
timing_first k = record { ready = k.ready; some = k.some; owed = λ a' r z. z }

-- Such a sign stands inside the text.
pub time_inside : (s : List ℕ) (p : ℕ) → one_of (peek s p) (bytes "@?") ≡ true → p < length s
time_inside s p e = inside_test s p (λ b. one_of b (bytes "@?")) refl e

module _ {s a₀ : List ℕ} {p₀ m₀ h : ℕ} {a : List ℕ} {p m : ℕ} (t : Timing s a₀ p₀ m₀ h a p m) where
  -- No sign stands at p.
  pub timing_ends : one_of (peek s p) (bytes "@?") ≡ false → Owed s a₀ a p₀ m₀ h (reached p m h)
  timing_ends none = t.owed _ _ (λ n x f l he hs. by (times_none s n f p none) (stop t.ready.within t.ready.arena he hs))

  module _ (sign : one_of (peek s p) (bytes "@?") ≡ true) where
    -- The interval after it is refused.
    pub timing_refused : {a' : List ℕ} {r : Refusal} {z : Answer} → Err r ≡ interval s (p + 1) → z ≡ Err r → Owed s a₀ a' p₀ m₀ h z
    timing_refused e k =
        t.owed _ _ (λ n x f l he hs.
        rw k
        (refuses (times_one s n f p sign (time_inside s p sign) l ∙ ap (λ i. offsets_then i (λ first more q. times s (n - 1) (Written.time (eqb (peek s p) (byte "@")) first more f) q)) (sym e))))

    module _ {first more q : ℕ} (e : Ok (first, more, q) ≡ interval s (p + 1)) where
      -- There is room for its node.
      pub timing_room : NodeRoom a m 1
      timing_room = let i = time_inside s p sign in room_for t.ready m 1 (omega arith) refl

      -- The interval and its node, and on.
      pub timing_on : {a₂ : List ℕ} {b : ℕ} → b ≡ peek s p → a₂ ≡ put_node a m (Time (eqb b (byte "@")) (m - 1) first more) → Timing s a₀ p₀ m₀ h a₂ q (m + 1)
      timing_on {a₂} {b} eb put =
          let i = time_inside s p sign in
          let w = timed_offsets s p e in
          record {
            ready = after_node t.ready _ _ (omega (arith, w.1)) w.2 (omega (arith, t.some), w.3, w.4) put;
            some = omega arith;
            owed = λ a' r next. t.owed a' r (λ n x f l he hs.
                times_on s n f p sign i l eb w.0 (omega (arith, w.1)) w.3 w.4 t.some t.ready.arena timing_room he hs put (λ g hg hs'. next (n - 1) x g (omega (arith, w.1)) hg hs'));
          }
