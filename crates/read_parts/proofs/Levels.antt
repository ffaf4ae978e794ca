-- The laws by which each level's answer follows from the answers of the levels that it calls.
-- Assumes nothing.
use mathlib.Core.Path.{◌≡◌, refl, sym, subst, ◌∙◌}
use mathlib.Core.Bool.{Bool}
use mathlib.Core.List.{List}
use Prim.Native.Nat.{ℕ, suc, ◌+◌, ◌-◌, ◌<◌, ◌≤◌}
use native.Mathlib.Numerals.{add-one}
use native.Mathlib.Omega.{arith}
use borrow.Author.Tests.{eq-eqb, ne_eqb}
use lib.Dec.{eqb}
use Rattle.spec_limits.specs.Limits.{most_offset}
use Rattle.read_bytes.specs.Read.{Read, and_then}
use Rattle.read_bytes.specs.Read.Read.{got, refused}
use Rattle.read_bytes.specs.Bytes.{byte, peek, pick}
use Rattle.spec_tilco.specs.Formula.{Written, hiddens}
use Rattle.read_arena.specs.declared.Sign.{Sign}
use Rattle.read_arena.specs.declared.Node.{Node}
use Rattle.read_arena.specs.declared.Node.TheVariants.{Name, Deny, Pair, Time}
use Rattle.read_arena.specs.Nodes.{op_of, put_node, put_keep}
use Rattle.read_arena.specs.NodeRules.{Arena, NodeRoom, Same, Held}
use Rattle.read_arena.proofs.Puts.{same_put, same_then, arena_put}
use Rattle.read_arena.proofs.Helds.{held_kept, held_name, held_neg, held_pair, held_time}
use Rattle.read_arena.proofs.Keeps.{arena_put_keep, same_put_keep, held_keep}
use Rattle.std.specs.Prelude.{Err}
use Rattle.spec_refusals.specs.declared.Fault.TheVariants.{Formula}
use Rattle.spec_refusals.specs.Numbers.{fault_number, Refusal}
use Rattle.read_parts.specs.FormulaText.{then_paren}
use Rattle.read_parts.specs.Parsed.{Answer, reached, refusing, Progress, Parses}
use Rattle.read_parts.specs.Parsed.Parses.{parsed, refuses}

-- ---- an answer taken apart

module _ {a a' : List ℕ} {L e p m h x : ℕ} {R : Read Written} where
  -- What an answer says by another name, and its place by another name.
  pub by : {R' : Read Written} {r : Answer} → R' ≡ R → Parses a a' L e p m h x R r → Parses a a' L e p m h x R' r
  by {r = r} z A = subst (λ (S : Read Written). Parses a a' L e p m h x S r) (sym z) A

  pub from : {p' : ℕ} {r : Answer} → p ≡ p' → Parses a a' L e p m h x R r → Parses a a' L e p' m h x R r
  from {r = r} z A = subst (λ (q : ℕ). Parses a a' L e q m h x R r) z A

  -- How far a formula came.
  pub far : {q u h' : ℕ} → Parses a a' L e p m h x R (reached q u h') → Progress L e p m h q u h'
  far (parsed w eq f ar sm he hh) = f

  -- The arena that it left.
  pub left : {q u h' : ℕ} → Parses a a' L e p m h x R (reached q u h') → Arena u a'
  left (parsed w eq f ar sm he hh) = ar

  -- A formula by another name.
  pub got_as : {R' : Read Written} {q u h' : ℕ} → ((f : Written) → R ≡ got f q → R' ≡ got f q) → Parses a a' L e p m h x R (reached q u h') → Parses a a' L e p m h x R' (reached q u h')
  got_as same (parsed w eq f ar sm he hh) = parsed w (same w eq) f ar sm he hh

  -- A refusal by another name, whatever stands in the arena.
  pub refused_as : {R' : Read Written} {b b' : List ℕ} {L' e' p' m' k' x' : ℕ} {r : Refusal} {z : Answer} → (R ≡ refused (fault_number r.fault) r.place → R' ≡ refused (fault_number r.fault) r.place)
      → Parses a a' L e p m h x R (Err r) → z ≡ Err r → Parses b b' L' e' p' m' k' x' R' z
  refused_as {R'} {b} {b'} {L'} {e'} {p'} {m'} {k'} {x'} same (refuses eq) z = subst (Parses b b' L' e' p' m' k' x' R') (sym z) (refuses (same eq))

  -- A refusal is handed on.
  pub hand_on : {b b' : List ℕ} {L' e' p' m' k' x' : ℕ} {r : Refusal} {z : Answer} (K : Written → ℕ → Read Written)
      → Parses a a' L e p m h x R (Err r) → z ≡ Err r → Parses b b' L' e' p' m' k' x' (and_then R K) z
  hand_on K A z = refused_as (λ e. rw e) A z

-- ---- answers put together

same_fewer : {a b : List ℕ} {c : ℕ} (d : ℕ) → d ≤ c → Same c a b → Same d a b
same_fewer d h s = record { node = λ n lt. s.node n (omega arith) }

-- A part from a place k on, and then what follows it, told from a place j on: as one from an earlier place p on.
pub then : {a a₁ a' : List ℕ} {L k m h₁ x₁ q u h₂ j x : ℕ} {R : Read Written} {r : Answer} (p h : ℕ) (K : Written → ℕ → Read Written)
    → p < j → q + p ≤ j + k → h ≤ h₁ → h₁ + q + p ≤ h + j + k → Parses a a₁ L 1 k m h₁ x₁ R (reached q u h₂)
    → ((f : Written) → Held a₁ x₁ (u - 1) f → h₂ ≡ x₁ + hiddens f → Parses a₁ a' L 0 j u h₂ x (K f q) r)
    → Parses a a' L 1 p m h x (and_then R K) r
then {a} {a₁} {a'} {L} {k} {m} {h₁} {x₁} {q} {u} {h₂} {j} {x} {R} {r} p h K pj qp hh hp (parsed f eq w ar sm he hs) next = rw eq (go r (next f he hs))
  where
    go : (r : Answer) → Parses a₁ a' L 0 j u h₂ x (K f q) r → Parses a a' L 1 p m h x (K f q) r
    go r (parsed f' eq' w' ar' sm' he' hs') =
        parsed f' eq'
        (record { ahead = omega (arith, w'.ahead); inside = w'.inside; fresh = omega (arith, w.fresh, w'.fresh); nodes = omega (arith, w.nodes, w'.nodes); rows = omega (arith, w.rows, w'.rows); hidden = omega (arith, w.hidden, w'.hidden) })
        ar' (same_then sm (same_fewer m (omega (arith, w.fresh)) sm')) he' hs'
    go r (refuses eq') = refuses eq'

-- Nothing follows.
pub stop : {a : List ℕ} {L p m h x : ℕ} {f : Written} → p ≤ L → Arena m a → Held a x (m - 1) f → h ≡ x + hiddens f → Parses a a L 0 p m h x (got f p) (reached p m h)
stop {a} {L} {p} {m} {h} {x} {f} l ar he hs =
    parsed f refl (record { ahead = omega arith; inside = l; fresh = omega arith; nodes = omega arith; rows = omega arith; hidden = omega arith })
    ar (record { node = λ n lt. refl }) he hs

-- A node was put over what stands last, and something follows: as one from an earlier place p on.
after_put : {a a₂ a' : List ℕ} {L p m h x q u h₂ : ℕ} {R : Read Written} {r : Answer} → p < q → m < u → u + p ≤ m + q → h ≤ h₂ → h₂ + p ≤ h + q → Same m a a₂
    → Parses a₂ a' L 0 q u h₂ x R r → Parses a a' L 0 p m h x R r
after_put {m = m} pq mu up hh hp sm (parsed f eq w ar sm' he hs) =
    parsed f eq
    (record { ahead = omega (arith, w.ahead); inside = w.inside; fresh = omega (arith, w.fresh); nodes = omega (arith, w.nodes); rows = omega (arith, w.rows); hidden = omega (arith, w.hidden) })
    ar (same_then sm (same_fewer m (omega arith) sm')) he hs
after_put pq mu up hh hp sm (refuses eq) = refuses eq

-- A sign, a part, the node over both, and then what follows.
pub join : {a a₁ a' : List ℕ} {L k m h x q u h₂ : ℕ} {R : Read Written} {r : Answer} (a₂ : List ℕ) (p : ℕ) (s : Sign) (f : Written) (K : Written → ℕ → Read Written)
    → 0 < m → p < k → Arena m a → Held a x (m - 1) f → h ≡ x + hiddens f → Parses a a₁ L 1 k m h h R (reached q u h₂) → NodeRoom a₁ u 1 → a₂ ≡ put_node a₁ u (Pair s (m - 1) (u - 1))
    → ((g : Written) → Held a₂ x ((u + 1) - 1) g → h₂ ≡ x + hiddens g → Arena (u + 1) a₂ → Parses a₂ a' L 0 q (u + 1) h₂ x (K g q) r)
    → Parses a a' L 0 p m h x (and_then R (λ g y. K (Written.pair (op_of s) f g) y)) r
join {a} {a₁} {a'} {L} {k} {m} {h} {x} {q} {u} {h₂} {R} {r} a₂ p s f K some pk ar hf hs (parsed g eq w ar₁ sm hg hs₁) room e next =
    rw eq
    (after_put (omega (arith, w.ahead)) (omega (arith, w.fresh)) (omega (arith, w.nodes)) w.rows (omega (arith, w.hidden)) (rw e (same_then sm (same_put a₁ m u node (omega (arith, w.fresh)))))
    (next (Written.pair (op_of s) f g) (rw (e, last) held) (omega arith) (rw e (arena_put node ar₁ room (omega (arith, w.fresh), omega (arith, w.fresh))))))
  where
    node : Node
    node = Pair s (m - 1) (u - 1)

    last : (u + 1) - 1 ≡ u
    last = omega arith

    held : Held (put_node a₁ u (Pair s (m - 1) (u - 1))) x u (Written.pair (op_of s) f g)
    held = held_pair ar₁ room s (omega (arith, w.fresh)) (omega (arith, w.fresh)) (held_kept ar sm (omega arith) hf) (subst (λ (y : ℕ). Held a₁ y (u - 1) g) hs hg)

-- ---- one node more

-- A name's node.
pub leaf : {a : List ℕ} {L m h : ℕ} {R : Read Written} (a' : List ℕ) (p q n : ℕ) → R ≡ got (Written.name n) q → p < q → q ≤ L → Arena m a → NodeRoom a m 1
    → a' ≡ put_node a m (Name n) → Parses a a' L 1 p m h h R (reached q (m + 1) h)
leaf {a} {L} {m} {h} a' p q n eq pq ql ar room e =
    let last : (m + 1) - 1 ≡ m = omega arith in
    parsed (Written.name n) eq
    (record { ahead = omega arith; inside = ql; fresh = omega arith; nodes = omega arith; rows = omega arith; hidden = omega arith })
    (rw e (arena_put (Name n) ar room tt)) (rw e (same_put a m m (Name n) (omega arith))) (rw (e, last) (held_name ar room h n)) (omega arith)

-- A `!` and its node.
pub wrap : {a a₁ : List ℕ} {L k m h q u h₂ : ℕ} {R : Read Written} (a₂ : List ℕ) (p : ℕ) → p < k → Parses a a₁ L 1 k m h h R (reached q u h₂) → NodeRoom a₁ u 1
    → a₂ ≡ put_node a₁ u (Deny (u - 1)) → Parses a a₂ L 1 p m h h (and_then R (λ f y. got (Written.neg f) y)) (reached q (u + 1) h₂)
wrap {a} {a₁} {L} {k} {m} {h} {q} {u} {h₂} a₂ p pk (parsed f eq w ar sm he hs) room e =
    let last : (u + 1) - 1 ≡ u = omega arith in
    parsed (Written.neg f) (rw eq)
    (record { ahead = omega (arith, w.ahead); inside = w.inside; fresh = omega (arith, w.fresh); nodes = omega (arith, w.nodes, w.ahead); rows = w.rows; hidden = omega (arith, w.hidden) })
    (rw e (arena_put (Deny (u - 1)) ar room (omega (arith, w.fresh)))) (rw e (same_then sm (same_put a₁ m u (Deny (u - 1)) (omega (arith, w.fresh)))))
    (rw (e, last) (held_neg ar room (omega (arith, w.fresh)) he)) hs

-- What stands last over an interval's offsets, and then what follows.
pub over_offsets_lem : {a a' : List ℕ} {L m h x q : ℕ} {r : Answer} (a₂ : List ℕ) (p first more : ℕ) (always : Bool) (f : Written) (K : Written → ℕ → Read Written)
    → 0 < m → p < q → 1 ≤ first → first + more ≤ most_offset → Arena m a → NodeRoom a m 1 → Held a x (m - 1) f → h ≡ x + hiddens f → a₂ ≡ put_node a m (Time always (m - 1) first more)
    → ((g : Written) → Held a₂ x ((m + 1) - 1) g → h ≡ x + hiddens g → Arena (m + 1) a₂ → Parses a₂ a' L 0 q (m + 1) h x (K g q) r)
    → Parses a a' L 0 p m h x (K (Written.time always first more f) q) r
over_offsets_lem {a} {a'} {L} {m} {h} {x} {q} {r} a₂ p first more always f K some pq low high ar room he hs e next =
    let last : (m + 1) - 1 ≡ m = omega arith in
    after_put pq (omega arith) (omega arith) (omega arith) (omega arith) (rw e (same_put a m m node (omega arith)))
    (next (Written.time always first more f) (rw (e, last) (held_time ar room always first more (omega arith) low high he)) hs (rw e (arena_put node ar room (omega arith, low, high))))
  where
    node : Node
    node = Time always (m - 1) first more

-- ---- brackets

-- A `)` follows what was read, or it does not.
pub shut : {a a₁ : List ℕ} {L k m h x q u h₂ : ℕ} {R : Read Written} (s : List ℕ) (p : ℕ) → p < k → Parses a a₁ L 1 k m h x R (reached q u h₂) → peek s q ≡ byte ")" → q < L
    → Parses a a₁ L 1 p m h x (then_paren s R) (reached (q + 1) u h₂)
shut {q = q} {u} {h₂} s p pk (parsed f eq w ar sm he hs) b ql =
    parsed f (rw (eq, eq-eqb (peek s q) (byte ")") b))
    (record { ahead = omega (arith, w.ahead); inside = omega arith; fresh = w.fresh; nodes = omega (arith, w.nodes); rows = w.rows; hidden = omega (arith, w.hidden) }) ar sm he hs

pub unshut : {a a₁ b b' : List ℕ} {L e k m h x q u h₂ L' e' p' m' k' x' : ℕ} {R : Read Written} (s : List ℕ) (K : Written → ℕ → Read Written) → Parses a a₁ L e k m h x R (reached q u h₂) → (peek s q ≡ byte ")" → ⊥)
    → ((f : Written) → K f q ≡ pick (eqb (peek s q) (byte ")")) (λ _. got f (q + 1)) (refused 5 q)) → Parses b b' L' e' p' m' k' x' (and_then R K) (refusing Formula q)
unshut {q = q} s K (parsed f eq w ar sm he hs) n e = refuses (rw eq (e f ∙ rw (ne_eqb (peek s q) (byte ")") n)))

-- The second formula of a since or until: its `)`, and the six nodes.
module _ {a a₁ : List ℕ} {L k m h q u h₂ : ℕ} {R : Read Written} (s : List ℕ) (b : Bool) (f : Written) (A : Parses a a₁ L 1 k m h h R (reached q u h₂)) where
  pub shut_keep : (a₂ : List ℕ) (p row : ℕ) → 0 < m → p + 5 ≤ k → Arena m a → Held a (suc row) (m - 1) f → h ≡ suc row + hiddens f → NodeRoom a₁ u 6 → a₂ ≡ put_keep a₁ u b row (m - 1) (u - 1)
      → peek s q ≡ byte ")" → q < L → Parses a a₂ L 0 p m h row (then_paren s (and_then R (λ g y. got (Written.keep b f g) y))) (reached (q + 1) (u + 6) h₂)
  shut_keep a₂ p row some pk ar he hs room e z ql = go A
    where
      last : (u + 6) - 1 ≡ u + 5
      last = omega arith

      go : Parses a a₁ L 1 k m h h R (reached q u h₂) → Parses a a₂ L 0 p m h row (then_paren s (and_then R (λ g y. got (Written.keep b f g) y))) (reached (q + 1) (u + 6) h₂)
      go (parsed g eq w ar₁ sm hg hs₁) =
          let l : m - 1 < u = omega (arith, w.fresh) in
          let r : u - 1 < u = omega (arith, w.fresh) in
          let left = held_kept ar sm (omega arith) he in
          let right = subst (λ (y : ℕ). Held a₁ y (u - 1) g) hs hg in
          parsed (Written.keep b f g) (rw (eq, eq-eqb (peek s q) (byte ")") z))
          (record { ahead = omega (arith, w.ahead); inside = omega arith; fresh = omega (arith, w.fresh); nodes = omega (arith, w.nodes); rows = w.rows; hidden = omega (arith, w.hidden) })
          (rw e (arena_put_keep b row ar₁ room l r)) (rw e (same_then sm (same_fewer m (omega (arith, w.fresh)) (same_put_keep a₁ u b row (m - 1) (u - 1)))))
          (rw (e, last) (held_keep b row ar₁ room l r left right)) (omega arith)

  pub unshut_keep : {b₁ b' : List ℕ} {L' e' p' m' k' x' : ℕ} → (peek s q ≡ byte ")" → ⊥) → Parses b₁ b' L' e' p' m' k' x' (then_paren s (and_then R (λ g y. got (Written.keep b f g) y))) (refusing Formula q)
  unshut_keep {b₁} {b'} {L'} {e'} {p'} {m'} {k'} {x'} n = go A
    where
      go : Parses a a₁ L 1 k m h h R (reached q u h₂) → Parses b₁ b' L' e' p' m' k' x' (then_paren s (and_then R (λ g y. got (Written.keep b f g) y))) (refusing Formula q)
      go (parsed g eq w ar₁ sm hg hs₁) = refuses (rw (eq, ne_eqb (peek s q) (byte ")") n))

pub hand_on_keep : {a a' b₁ b' : List ℕ} {L e p m h x L' e' p' m' k' x' : ℕ} {R : Read Written} {r : Refusal} {z : Answer} (s : List ℕ) (b : Bool) (f : Written)
    → Parses a a' L e p m h x R (Err r) → z ≡ Err r → Parses b₁ b' L' e' p' m' k' x' (then_paren s (and_then R (λ g y. got (Written.keep b f g) y))) z
hand_on_keep s b f A z = refused_as (λ e. rw e) A z

-- The first hidden signal after h.
pub held_next : {a : List ℕ} {n : ℕ} {f : Written} (h : ℕ) → Held a (h + 1) n f → Held a (suc h) n f
held_next {a} {n} {f} h z = subst (λ (y : ℕ). Held a y n f) (add-one h) z

-- ---- a whole rule: nothing follows the formula, or something does

module _ {a a₁ : List ℕ} {L p m h x q u h₂ : ℕ} {R : Read Written} (n : ℕ) (A : Parses a a₁ L 1 p m h x R (reached q u h₂)) where
  abbrev ended : Read Written
  ended = and_then R (λ f y. pick (eqb y n) (λ _. got f y) (refused 5 y))

  pub whole : q ≡ n → Parses a a₁ L 1 p m h x ended (reached q u h₂)
  whole e = got_as (λ f eq. rw (eq, eq-eqb q n e)) A

  pub not_whole : (q ≡ n → ⊥) → Parses a a₁ L 1 p m h x ended (refusing Formula q)
  not_whole e = go A
    where
      go : Parses a a₁ L 1 p m h x R (reached q u h₂) → Parses a a₁ L 1 p m h x ended (refusing Formula q)
      go (parsed f eq w ar sm he hs) = refuses (rw (eq, ne_eqb q n e))
