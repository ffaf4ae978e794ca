-- The loop of a level, one part after the other: what is known before a part and after it, and the laws of its turns.
-- Assumes nothing. `k` is the level's sign, P reads its parts from the text s; the loop starts with the arena a₀ at place p₀, with m₀ nodes and
-- the next hidden signal's row h₀.
use mathlib.Core.Path.{◌≡◌, refl, sym, ◌∙◌}
use mathlib.Core.Bool.{Bool, true, false, true≢false, ◌||◌, ◌&&◌}
use mathlib.Core.List.{List}
use Prim.Native.Nat.{ℕ, ◌+◌, ◌-◌, ◌<◌, ◌≤◌}
use native.Mathlib.Omega.{arith}
use lib.ListN.{length}
use Rattle.read_bytes.specs.Read.{and_then}
use Rattle.read_bytes.specs.Read.Read.{got}
use Rattle.read_bytes.specs.Bytes.{pick, starts}
use Rattle.spec_tilco.specs.Formula.{Op, Written, hiddens}
use Rattle.read_arena.specs.declared.Sign.{Sign}
use Rattle.read_arena.specs.declared.Node.TheVariants.{Pair}
use Rattle.read_arena.specs.Nodes.{op_of}
use Rattle.read_arena.specs.NodeRules.{Held}
use Rattle.read_arena.proofs.Puts.{length_put, arena_put}
use Rattle.std.specs.Prelude.{Err}
use Rattle.spec_refusals.specs.Numbers.{Refusal}
use Rattle.read_parts.specs.FormulaText.{Reader, sign_text, repeats, more, level}
use Rattle.read_parts.specs.Parsed.{Answer, reached, PartReady, Parses}
use Rattle.read_parts.specs.Promise.{Joinable, Joins, goes_on}
use Rattle.read_parts.proofs.Levels.{by, from, far, left, hand_on, then, stop, join}
use Rattle.read_parts.proofs.Rooms.{on, room_for}
use Rattle.read_parts.proofs.Steps.{sign_inside, sign_some, more_none, more_one, onward}

-- How many bytes the sign has.
abbrev sign_length : Sign → ℕ
sign_length k = length (sign_text (op_of k))

-- ---- before a part

-- The answer r is what is read from place p on, where a part is next: the level, on the first turn; on a later one a part that is joined to
-- whatever formula f stands at the last of m nodes, and what follows it, told from the sign before p on. The arena goes from a to a'.
abbrev Owed : Bool → Sign → Reader → List ℕ → List ℕ → List ℕ → ℕ → ℕ → ℕ → Answer → Type 0
Owed true k P s a a' p m h r = Parses a a' (length s) 1 p m h h (level (op_of k) P s p) r
Owed false k P s a a' p m h r =
    (n x : ℕ) (f : Written) → length s ≤ p + n → Held a x (m - 1) f → h ≡ x + hiddens f
    → Parses a a' (length s) 0 (p - sign_length k) m h x (and_then (P p) (λ g q. onward (op_of k) P s n (Written.pair (op_of k) f g) q)) r

-- Ready after a sign, whose bytes count as what is left, with a node at least.
pub record AfterSign (k : Sign) (s a : List ℕ) (N : Type 0) (p m h : ℕ) : Type 0 where
  pub ready : PartReady s a N (p - sign_length k) m h
  pub sign : sign_length k ≤ p
  pub some : 0 < m

-- A turn is at place p, with m nodes and the next row h: what is owed there answers the level.
pub record Turn (k : Sign) (P : Reader) (s : List ℕ) (N : Type 0) (a₀ : List ℕ) (p₀ m₀ h₀ : ℕ) (first : Bool) (a : List ℕ) (p m h : ℕ) : Type 0 where
  pub ready : PartReady s a N p m h
  pub ahead : p₀ ≤ p
  pub long : length a ≡ length a₀
  pub later : first ≡ false → AfterSign k s a N p m h
  pub owed : (a' : List ℕ) (r : Answer) → Owed first k P s a a' p m h r → Parses a₀ a' (length s) 1 p₀ m₀ h₀ h₀ (level (op_of k) P s p₀) r

-- ---- after a part

-- What follows a part f at q: after the first, a sign and so on; after a later one, that only if the sign repeats.
abbrev rest : Bool → Op → Reader → List ℕ → ℕ → Written → Reader
rest first o P s n f q = pick first (λ _. more o P s n f q) (onward o P s n f q)

-- A part was read and joined: what follows it answers the level.
pub record Joined (k : Sign) (P : Reader) (s : List ℕ) (N : Type 0) (a₀ : List ℕ) (p₀ m₀ h₀ : ℕ) (first : Bool) (a : List ℕ) (q m h : ℕ) : Type 0 where
  pub ready : PartReady s a N q m h
  pub ahead : p₀ < q
  pub long : length a ≡ length a₀
  pub some : 0 < m
  pub owed : (a' : List ℕ) (r : Answer)
      → ((n x : ℕ) (f : Written) → length s ≤ q + n → Held a x (m - 1) f → h ≡ x + hiddens f → Parses a a' (length s) 0 q m h x (rest first (op_of k) P s n f q) r)
      → Parses a₀ a' (length s) 1 p₀ m₀ h₀ h₀ (level (op_of k) P s p₀) r

-- ---- the turns

-- The loop starts.
pub turn_first : {k : Sign} {P : Reader} {s : List ℕ} {N : Type 0} {a : List ℕ} {p m h : ℕ} → PartReady s a N p m h → Turn k P s N a p m h true a p m h
turn_first ready = record { ready = ready; ahead = omega arith; long = refl; later = λ e. absurd (true≢false e); owed = λ a' r z. z }

-- The part is refused.
pub turn_refused : {k : Sign} {P : Reader} {s : List ℕ} {N : Type 0} {a₀ : List ℕ} {p₀ m₀ h₀ : ℕ} {first : Bool} {a a₁ a' : List ℕ} {p m h : ℕ} {r : Refusal} {z : Answer} → Turn k P s N a₀ p₀ m₀ h₀ first a p m h
    → Parses a a₁ (length s) 1 p m h h (P p) (Err r) → z ≡ Err r → Parses a₀ a' (length s) 1 p₀ m₀ h₀ h₀ (level (op_of k) P s p₀) z
unfolding level
turn_refused {first = true} t part cut = t.owed _ _ (hand_on _ part cut)
turn_refused {first = false} t part cut = t.owed _ _ (λ n x f l he hs. hand_on _ part cut)

-- A later part can be joined.
pub turn_joinable : {k : Sign} {P : Reader} {s : List ℕ} {N : Type 0} {a₀ : List ℕ} {p₀ m₀ h₀ : ℕ} {first : Bool} {a a₁ : List ℕ} {p m h q u h₂ : ℕ} → Turn k P s N a₀ p₀ m₀ h₀ first a p m h
    → Parses a a₁ (length s) 1 p m h h (P p) (reached q u h₂) → length a₁ ≡ length a → first ≡ false → Joinable a₁ m u
turn_joinable {k} {u = u} t part l z =
    let w = far part in
    let i = t.later z in
    record { room = room_for i.ready u 1 (omega (arith, sign_some (op_of k))) l; some = i.some; after = omega arith }

-- A part is read and joined.
pub turn_joined : {k : Sign} {P : Reader} {s : List ℕ} {N : Type 0} {a₀ : List ℕ} {p₀ m₀ h₀ : ℕ} {first : Bool} {a a₁ a₂ : List ℕ} {p m h q u h₂ c : ℕ} → Turn k P s N a₀ p₀ m₀ h₀ first a p m h
    → Parses a a₁ (length s) 1 p m h h (P p) (reached q u h₂) → length a₁ ≡ length a → Joins k first m u a₁ a₂ c → Joined k P s N a₀ p₀ m₀ h₀ first a₂ q c h₂
unfolding level
turn_joined {s = s} {first = true} {p = p} {h = h} {q = q} {u = u} {h₂ = h₂} t part l j =
    let w = far part in
    rw (j.put, j.count)
    (record {
      ready = on t.ready q u h₂ w.inside w.nodes w.hidden (left part) l;
      ahead = omega (arith, t.ahead);
      long = l ∙ t.long;
      some = omega arith;
      owed = λ a' r next. t.owed a' r (then p h _ (omega arith) (omega arith) (omega arith) (omega arith) part (λ f hf hs. next (length s) h f (omega arith) hf hs));
    })
turn_joined {k} {P} {s} {first = false} {a₁ = a₁} {a₂} {p} {m} {h} {q} {u} {h₂} t part l j =
    let w = far part in
    let i = t.later refl in
    let c = turn_joinable t part l refl in
    let b = sign_some (op_of k) in
    let ar = arena_put (Pair k (m - 1) (u - 1)) (left part) c.room (omega (arith, c.some, c.after), omega (arith, c.after)) in
    let same : length a₂ ≡ length a₁ = rw j.put (length_put a₁ u (Pair k (m - 1) (u - 1))) in
    rw j.count
    (record {
      ready = on i.ready q (u + 1) h₂ w.inside (omega (arith, i.sign)) (omega (arith, i.sign)) (rw j.put ar) (same ∙ l);
      ahead = omega (arith, t.ahead);
      long = same ∙ l ∙ t.long;
      some = omega arith;
      owed = λ a' r next.
          t.owed a' r (λ n x f enough hf hs.
          join a₂ (p - sign_length k) k f (onward (op_of k) P s n) i.some (omega (arith, i.sign)) i.ready.arena hf hs part c.room j.put
          (λ g hg hs' ar'. next n x g (omega arith) hg hs'));
    })

-- No other part follows at q.
pub joined_ends : {k : Sign} {P : Reader} {s : List ℕ} {N : Type 0} {a₀ : List ℕ} {p₀ m₀ h₀ : ℕ} {first : Bool} {a : List ℕ} {q m h : ℕ} → Joined k P s N a₀ p₀ m₀ h₀ first a q m h
    → goes_on (op_of k) first s q ≡ false → Parses a₀ a (length s) 1 p₀ m₀ h₀ h₀ (level (op_of k) P s p₀) (reached q m h)
joined_ends {k} {P} {s} {first = first} {q = q} j none = j.owed _ _ (λ n x f l he hs. by (ends first (repeats (op_of k)) none n f) (stop j.ready.within j.ready.arena he hs))
  where
    ends : (b c : Bool) → (c || b) && starts s q (sign_text (op_of k)) ≡ false → (n : ℕ) (f : Written) → pick b (λ _. more (op_of k) P s n f q) (pick c (λ _. more (op_of k) P s n f q) (got f q)) ≡ got f q
    ends true true e n f = more_none (op_of k) P s n f q e
    ends true false e n f = more_none (op_of k) P s n f q e
    ends false true e n f = more_none (op_of k) P s n f q e
    ends false false e n f = refl

-- One does, from p on, after the sign.
pub joined_on : {k : Sign} {P : Reader} {s : List ℕ} {N : Type 0} {a₀ : List ℕ} {p₀ m₀ h₀ : ℕ} {first : Bool} {a : List ℕ} {p q m h : ℕ} → Joined k P s N a₀ p₀ m₀ h₀ first a q m h
    → goes_on (op_of k) first s q ≡ true → p ≡ q + sign_length k → Turn k P s N a₀ p₀ m₀ h₀ false a p m h
joined_on {k} {P} {s} {first = first} {q = q} {m} {h} j more_parts e =
    let sign = goes first (repeats (op_of k)) more_parts in
    let i = sign_inside (op_of k) s q j.ready.within sign.0 in
    let b = sign_some (op_of k) in
    let back : q + sign_length k - sign_length k ≡ q = omega arith in
    rw e
    (record {
      ready = on j.ready (q + sign_length k) m h i (omega arith) (omega arith) j.ready.arena refl;
      ahead = omega (arith, j.ahead);
      long = j.long;
      later = λ z. record { ready = rw back j.ready; sign = omega arith; some = j.some };
      owed = λ a' r next.
          j.owed a' r (λ n x f l he hs. by (sign.1 n f ∙ more_one (op_of k) P s n f q sign.0 (omega arith) l) (from back (next (n - 1) x f (omega arith) he hs)));
    })
  where
    goes : (b c : Bool) → (c || b) && starts s q (sign_text (op_of k)) ≡ true
        → (starts s q (sign_text (op_of k)) ≡ true) × ((n : ℕ) (f : Written) → pick b (λ _. more (op_of k) P s n f q) (pick c (λ _. more (op_of k) P s n f q) (got f q)) ≡ more (op_of k) P s n f q)
    goes true true e = (e, λ n f. refl)
    goes true false e = (e, λ n f. refl)
    goes false true e = (e, λ n f. refl)
    goes false false e = absurd (true≢false (sym e))
