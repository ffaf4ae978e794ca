-- What reading a dump's lines comes to: all lines are right up to its end, or one is the first at fault.
-- Assumes that the window has a tick, and that no two of the names are the same. `names` are the declared names, W is the window, d the dump, p a place in it.
use mathlib.Core.Path.{◌≡◌, refl, sym, ◌∙◌}
use mathlib.Core.Bool.{Bool, true, false, true≢false}
use mathlib.Core.List.{List, [], ◌∷◌, ◌++◌, append-nil, append_assoc}
use Prim.Native.Nat.{ℕ, zero, suc, ◌+◌, ◌<◌, ◌≤◌}
use native.Mathlib.Omega.{arith}
use borrow.Author.Tests.{ltb-true, ltb-false, lt-ltb, le-ltb}
use lib.Dec.{ltb}
use lib.ListN.{length}
use Rattle.read_bytes.specs.Read.{Read, and_then}
use Rattle.read_bytes.specs.Read.Read.{got, refused}
use Rattle.read_bytes.specs.Bytes.{bytes}
use Rattle.read_bytes.proofs.Answers.{not_both}
use Rattle.read_names.proofs.Names.{Differ}
use Rattle.spec_grammar.specs.Lines.{after}
use Rattle.spec_dump.specs.DumpTexts.{Event}
use Rattle.spec_dump.specs.DumpLines.{this_line, timescale_line, var_line, var_lines, head_end, head_lines, asked, event_at, time_after, signal_after, events_from, events}
use Rattle.proof_dump.specs.DumpCases.{Next, timescale, scope, signal, definitions, nought, event, Owed, Reached, End, Outside, Fault, DumpFault, DumpWhole}
use Rattle.proof_dump.proofs.EventLines.{next_of, asked_owed, owed_asked}
use Rattle.proof_dump.proofs.NextLines.{line_at, LineIs, line_is, outside_reads, right_reads}

-- ---- what the reader comes to

-- After a line: the lines up to there are right, or one is at fault.
abbrev Outcome : List (List ℕ) → ℕ → List ℕ → Read Next → Type 0
Outcome names W d (got c q) = Reached names W d c q
Outcome names W d (refused n i) = DumpFault names W d n i

-- At the end, after the events fs.
abbrev pub Ended : List (List ℕ) → ℕ → List ℕ → List Event → Read (List Event) → Type 0
Ended names W d fs (got es q) = DumpWhole names W d (fs ++ es) × (q ≡ length d)
Ended names W d fs (refused n i) = DumpFault names W d n i

-- No other line than an event's comes at the end.
abbrev NoEvent : Next → Type 0
NoEvent timescale = Unit {0}
NoEvent scope = Unit {0}
NoEvent (signal x) = Unit {0}
NoEvent definitions = Unit {0}
NoEvent nought = Unit {0}
NoEvent (event u k es) = ⊥

not_end : {names : List (List ℕ)} {d : List ℕ} {p : ℕ} {c : Next} → NoEvent c → End names d p c → ⊥
not_end z (End.end n e) = z

-- A name or a tick outside is not 22.
outside_number : {names : List (List ℕ)} {W : ℕ} {d : List ℕ} {p : ℕ} {c : Next} {n i : ℕ} → Outside names W d p c n i → n ≡ 22 → ⊥
outside_number (Outside.name l a m) e = omega arith
outside_number (Outside.tick f a m l) e = omega arith

-- What was reached lies in the dump.
pub reached_inside : {names : List (List ℕ)} {W : ℕ} {d : List ℕ} {c : Next} {p : ℕ} → Reached names W d c p → p ≤ length d
reached_inside Reached.start = omega arith
reached_inside (Reached.line h a r) = omega (arith, a.inside)

-- A line more, and then what follows.
then_outcome : {A B : Type 0} (names : List (List ℕ)) (W : ℕ) (d : List ℕ) (P : Read B → Type 0) → ((n i : ℕ) → DumpFault names W d n i → P (refused n i)) → (R : Read A) (f : A → Next) (K : A → ℕ → Read B)
    → Outcome names W d (and_then R (λ x q. got (f x) q)) → ((x : A) (q : ℕ) → R ≡ got x q → Reached names W d (f x) q → P (K x q)) → P (and_then R K)
then_outcome names W d P off (got x q) f K h k = k x q refl h
then_outcome names W d P off (refused n i) f K h k = off n i h

module _ (names : List (List ℕ)) (W : ℕ) (some : 1 ≤ W) (differ : Differ names) (d : List ℕ) where
  -- The line that comes next is right or at fault, if it is not the end.
  line_outcome : {c : Next} {p : ℕ} → Reached names W d c p → (End names d p c → ⊥) → Outcome names W d (line_at names W d c p)
  line_outcome {c} {p} h more = go (line_is names W some d c p) refl
    where
      go : {R : Read Next} → LineIs names W d p c R → line_at names W d c p ≡ R → Outcome names W d R
      go (LineIs.right a r) e = Reached.line h a r
      go (LineIs.outside o) e = record { next = c; place = p; reached = h; holds = Fault.outside o }
      go LineIs.other e = record {
        next = c;
        place = p;
        reached = h;
        holds = Fault.other
            (record {
              not_right = λ l x a r. not_both (sym (right_reads names W some d differ a r) ∙ e);
              not_outside = λ n i o. outside_number o (let z = sym (outside_reads names W some d o) ∙ e in cc);
              not_end = more;
            });
      }

  -- And it is not empty.
  line_ahead : (c : Next) (p : ℕ) {e : Next} {q : ℕ} → line_at names W d c p ≡ got e q → p < q
  line_ahead c p {e} {q} h = go (line_is names W some d c p) h
    where
      go : {R : Read Next} → LineIs names W d p c R → R ≡ got e q → p < q
      go (LineIs.right {l = l} a r) i = let z : after p l ≡ q = cc in omega arith
      go (LineIs.outside o) i = absurd (not_both (sym i))
      go LineIs.other i = absurd (not_both (sym i))

  -- ---- the lines up to `#0`

  signal_outcome : {x p : ℕ} → x < length names → Reached names W d (signal x) p → Outcome names W d (and_then (var_line names d x p) (λ _ q. got (signal (suc x)) q))
  unfolding line_at
  signal_outcome {x} {p} l h = rw (lt-ltb x (length names) l) at (line_outcome h (not_end tt))

  upscope_outcome : {p : ℕ} → Reached names W d (signal (length names)) p → Outcome names W d (and_then (this_line d p (bytes "$upscope $end\n")) (λ _ q. got definitions q))
  unfolding line_at
  upscope_outcome {p} h = rw (le-ltb (length names) (length names) (omega arith)) at (line_outcome h (not_end tt))

  -- What reads on to c comes to it.
  abbrev To : {A : Type 0} → Next → Read A → Type 0
  To c R = Outcome names W d (and_then R (λ _ q. got c q))

  vars_outcome : (n x p : ℕ) → x + n ≡ length names → Reached names W d (signal x) p → To (signal (length names)) (var_lines names d n x p)
  unfolding var_lines
  vars_outcome zero x p e h = let i : x ≡ length names = omega arith in rw i at h
  vars_outcome (suc n) x p e h =
      then_outcome names W d (To (signal (length names))) (λ m i f. f) (var_line names d x p) (λ _. signal (suc x)) (λ _ q. var_lines names d n (suc x) q) (signal_outcome (omega arith) h)
      (λ y q i k. vars_outcome n (suc x) q (omega arith) k)

  end_outcome : (p : ℕ) → Reached names W d (signal (length names)) p → To (event 0 0 []) (head_end d p)
  unfolding head_end line_at
  end_outcome p h =
      then_outcome names W d (To (event 0 0 [])) (λ n i f. f) (this_line d p (bytes "$upscope $end\n")) (λ _. definitions) _ (upscope_outcome h)
      (λ x q e k. then_outcome names W d (To (event 0 0 [])) (λ n i f. f) (this_line d q (bytes "$enddefinitions $end\n")) (λ _. nought) _ (line_outcome k (not_end tt))
      (λ y r f j. line_outcome j (not_end tt)))

  head_outcome : To (event 0 0 []) (head_lines names d)
  unfolding head_lines line_at
  head_outcome =
      then_outcome names W d (To (event 0 0 [])) (λ n i f. f) (timescale_line d 0) (λ _. scope) _ (line_outcome Reached.start (not_end tt))
      (λ x p e h. then_outcome names W d (To (event 0 0 [])) (λ n i f. f) (this_line d p (bytes "$scope module sheet $end\n")) (λ _. signal 0) _ (line_outcome h (not_end tt))
      (λ y q f k. then_outcome names W d (To (event 0 0 [])) (λ n i f. f) (var_lines names d (length names) 0 q) (λ _. signal (length names)) _ (vars_outcome (length names) 0 q (omega arith) k)
      (λ z r g j. end_outcome r j)))

  -- ---- the events

  -- An event before others.
  event_first : (fs : List Event) (e : Event) (R : Read (List Event)) → Ended names W d (fs ++ (e ∷ [])) R → Ended names W d fs (and_then R (λ es r. got (e ∷ es) r))
  event_first fs e (got es q) h = rw append_assoc at h
  event_first fs e (refused n i) h = h

  -- The place after an event.
  event_ahead : (u k p : ℕ) {e : Event} {q : ℕ} → event_at W (length names) d u k p ≡ got e q → p < q
  unfolding line_at
  event_ahead u k p {e} h = line_ahead (event u k []) p {e = next_of u [] e} (rw h)

  -- At most n events more, if they are enough.
  events_ended : (n u k p : ℕ) (fs : List Event) → Reached names W d (event u k fs) p → length d < p + n → Ended names W d fs (events_from W (length names) d n u k p)
  unfolding events_from line_at
  events_ended zero u k p fs h l = let i = reached_inside h in absurd (omega arith)
  events_ended (suc n) u k p fs h l = go (ltb p (length d)) refl (asked (length names) u k) refl (λ v j q gs r m. events_ended n v j q gs r m)
    where
      More : Type 0
      More = (v j q : ℕ) (gs : List Event) → Reached names W d (event v j gs) q → length d < q + n → Ended names W d gs (events_from W (length names) d n v j q)

      on : More → (End names d p (event u k fs) → ⊥)
          → Ended names W d fs (and_then (event_at W (length names) d u k p) (λ e q. and_then (events_from W (length names) d n (time_after u e) (signal_after e) q) (λ es r. got (e ∷ es) r)))
      on more no_end =
          then_outcome names W d (Ended names W d fs) (λ m i f. f) (event_at W (length names) d u k p) (next_of u fs) _ (line_outcome h no_end)
          (λ e q i r. event_first fs e (events_from W (length names) d n (time_after u e) (signal_after e) q) (more (time_after u e) (signal_after e) q (fs ++ (e ∷ [])) r (let z = event_ahead u k p i in omega arith)))

      go : (b : Bool) → ltb p (length d) ≡ b → (c : Bool) → asked (length names) u k ≡ c → More → Ended names W d fs (events_from W (length names) d (suc n) u k p)
      go true e c f more = rw e (on more early)
        where
          early : End names d p (event u k fs) → ⊥
          early (End.end o i) = let z = ltb-true p (length d) e in omega arith
      go false e true f more = rw (e, f) (on more owing)
        where
          owing : End names d p (event u k fs) → ⊥
          owing (End.end o i) = o (asked_owed names u k f)
      go false e false f more =
          let i : p ≡ length d = let z = ltb-false p (length d) e in let y = reached_inside h in omega arith in
          let free : Owed names u k → ⊥ = λ o. true≢false (sym (owed_asked names u k o) ∙ f) in
          rw (e, f, append-nil) (record { latest = u; following = k; reached = rw i at h; given = free }, i)

  -- The whole dump.
  pub dump_ended : Ended names W d [] (events names W d)
  unfolding events
  dump_ended = then_outcome names W d (Ended names W d []) (λ n i f. f) (head_lines names d) (λ _. event 0 0 []) _ head_outcome (λ x p e h. events_ended (suc (length d)) 0 0 p [] h (omega arith))
