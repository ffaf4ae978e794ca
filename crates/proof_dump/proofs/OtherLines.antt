-- What "any other or missing line" is of lines that are nearly right: each is refused with 22 at its first byte, or at the dump's length.
-- Assumes that the window has a tick, and that no two of the names are the same. `names` are the declared names, W is the window, d the dump, p a place in it.
use mathlib.Core.Path.{◌≡◌, sym, ap, subst}
use mathlib.Core.Bool.{true}
use mathlib.Core.List.{List, [], ◌∷◌, ◌++◌, append_cancel_right}
use Prim.Native.Nat.{ℕ, ◌+◌, ◌<◌, ◌≤◌}
use native.Mathlib.Omega.{arith}
use lib.ListN.{length, get_or}
use Rattle.read_bytes.specs.Bytes.{bytes, byte, peek, one_of}
use Rattle.read_names.proofs.Names.{Differ, find_in}
use Rattle.spec_grammar.specs.Lines.{LineAt, Number}
use Rattle.spec_grammar.proofs.Lines.{line_one, value_one, number_one}
use Rattle.write_readings.proofs.ReadableNames.{find_back}
use Rattle.spec_dump.specs.DumpTexts.{Event, id_byte, var_key}
use Rattle.spec_dump.proofs.Signs.{of_one}
use Rattle.proof_dump.specs.DumpCases.{Next, timescale, scope, signal, definitions, nought, event, signal_line, Right, Reached, End, Outside, Fault, DumpFault}

-- A place where a line stands is not the end.
line_no_end : {names : List (List ℕ)} {d : List ℕ} {p : ℕ} {c : Next} {l : List ℕ} → LineAt d p l → End names d p c → ⊥
line_no_end a (End.end g e) = omega (arith, a.inside)

-- The time so far is in the window.
abbrev InWindow : ℕ → Next → Type 0
InWindow W timescale = Unit {0}
InWindow W scope = Unit {0}
InWindow W (signal x) = Unit {0}
InWindow W definitions = Unit {0}
InWindow W nought = Unit {0}
InWindow W (event u k es) = u < W

in_window : {names : List (List ℕ)} {W : ℕ} {c e : Next} {l : List ℕ} → 1 ≤ W → InWindow W c → Right names W c l e → InWindow W e
in_window some h (Right.scaled m n) = tt
in_window some h Right.scoped = tt
in_window some h (Right.declared i) = tt
in_window some h (Right.upscoped i) = tt
in_window some h Right.defined = tt
in_window some h Right.started = omega arith
in_window some h (Right.said f t o s) = h
in_window some h (Right.timed g n l i) = i

reached_window : {names : List (List ℕ)} {W : ℕ} {d : List ℕ} {c : Next} {p : ℕ} → 1 ≤ W → Reached names W d c p → InWindow W c
reached_window some Reached.start = tt
reached_window some (Reached.line h a r) = in_window some (reached_window some h) r

-- The first byte of a sign's line is not that of a time's.
not_hash : {b : ℕ} {l v : List ℕ} → one_of b (bytes "01xz") ≡ true → b ∷ l ≡ bytes "#" ++ v → ⊥
not_hash {b} s e =
    let i : b ≡ byte "#" = ap (λ l. get_or l 0 0) e in
    of_one (λ c. c ≡ byte "#" → ⊥) b (bytes "01xz") (λ z. omega arith, (λ z. omega arith, (λ z. omega arith, (λ z. omega arith, tt)))) s i

-- The signal of a line.
signal_one : (x y : ℕ) (v w : List ℕ) → signal_line x v ≡ signal_line y w → x ≡ y
unfolding var_key
signal_one x y v w e = omega (arith, ap (λ l. get_or l 12 0) e)

not_upscope : (x : ℕ) (w : List ℕ) → signal_line x w ≡ bytes "$upscope $end" → ⊥
unfolding var_key
not_upscope x w e = omega (arith, ap (λ l. get_or l 1 0) e)

module _ (names : List (List ℕ)) (W : ℕ) (d : List ℕ) where
  other_fault : {c : Next} {p : ℕ} → Reached names W d c p → ((l : List ℕ) (e : Next) → LineAt d p l → Right names W c l e → ⊥) → ((n i : ℕ) → Outside names W d p c n i → ⊥) → (End names d p c → ⊥) → DumpFault names W d 22 p
  other_fault {c} {p} h r o e = record { next = c; place = p; reached = h; holds = Fault.other (record { not_right = r; not_outside = o; not_end = e }) }

  -- "A line without LF too", and a missing one.
  pub no_line : {c : Next} {p : ℕ} → Reached names W d c p → (End names d p c → ⊥) → ((i : ℕ) → p ≤ i → i < length d → peek d i ≡ byte "\n" → ⊥) → DumpFault names W d 22 p
  no_line {p = p} h e n = other_fault h (λ l x a r. none a) (λ m i o. without o) e
    where
      none : {l : List ℕ} → LineAt d p l → ⊥
      none {l} a = n (p + length l) (omega arith) a.inside a.ends

      without : {c : Next} {m i : ℕ} → Outside names W d p c m i → ⊥
      without (Outside.name l a z) = none a
      without (Outside.tick g a z l) = none a

  module _ {u k p : ℕ} {es : List Event} (h : Reached names W d (event u k es) p) where
    -- "A time that does not rise."
    pub not_rising : 1 ≤ W → {v : List ℕ} {t : ℕ} → LineAt d p (bytes "#" ++ v) → Number v t → t ≤ u → DumpFault names W d 22 p
    not_rising some {v} {t} a n l = other_fault h (λ m e b r. right b r l) (λ m i o. (let z = reached_window some h in out o (omega arith))) (line_no_end a)
      where
        same : {w : List ℕ} {s : ℕ} → LineAt d p (bytes "#" ++ w) → Number w s → s ≡ t
        same {w} {s} b m = number_one (subst (λ z. Number z s) (value_one (bytes "#") b a) m) n

        right : {m : List ℕ} {u k : ℕ} {es : List Event} {e : Next} → LineAt d p m → Right names W (event u k es) m e → t ≤ u → ⊥
        right b (Right.said f g o s) i = not_hash s (line_one b a)
        right b (Right.timed g m j i) z = let e = same b m in omega arith

        out : {u k m i : ℕ} {es : List Event} → Outside names W d p (event u k es) m i → t < W → ⊥
        out (Outside.tick g b m j) z = let e = same b m in omega arith

    -- "A sign out of order or twice."
    pub not_in_order : {x b : ℕ} → one_of b (bytes "01xz") ≡ true → LineAt d p (b ∷ id_byte x ∷ []) → x < k → DumpFault names W d 22 p
    not_in_order {x} {b} s a l = other_fault h (λ m e c r. right c r l) (λ m i o. out o) (line_no_end a)
      where
        right : {m : List ℕ} {u k : ℕ} {es : List Event} {e : Next} → LineAt d p m → Right names W (event u k es) m e → x < k → ⊥
        right c (Right.said {x = y} f g o z) i = omega (arith, ap (λ l. get_or l 1 0) (line_one c a))
        right c (Right.timed g m j i) z = not_hash s (line_one a c)

        out : {u k m i : ℕ} {es : List Event} → Outside names W d p (event u k es) m i → ⊥
        out (Outside.tick g c m j) = not_hash s (line_one a c)

    -- "All at `#0`": another signal's sign, or a time, where one is asked for.
    pub not_asked : {x b : ℕ} → u ≡ 0 → k < length names → one_of b (bytes "01xz") ≡ true → LineAt d p (b ∷ id_byte x ∷ []) → (x ≡ k → ⊥) → DumpFault names W d 22 p
    not_asked {x} {b} z y s a n = other_fault h (λ m e c r. right c r z y n) (λ m i o. out o) (line_no_end a)
      where
        right : {m : List ℕ} {u k : ℕ} {es : List Event} {e : Next} → LineAt d p m → Right names W (event u k es) m e → u ≡ 0 → k < length names → (x ≡ k → ⊥) → ⊥
        right c (Right.said {x = w} f g o z) i j n = let q = o (i, j) in n (omega (arith, ap (λ l. get_or l 1 0) (line_one c a)))
        right c (Right.timed g m j i) e f n = not_hash s (line_one a c)

        out : {u k m i : ℕ} {es : List Event} → Outside names W d p (event u k es) m i → ⊥
        out (Outside.tick g c m j) = not_hash s (line_one a c)

    pub too_early : u ≡ 0 → k < length names → {v : List ℕ} → LineAt d p (bytes "#" ++ v) → DumpFault names W d 22 p
    too_early z y {v} a = other_fault h (λ m e c r. right c r z y) (λ m i o. out o z y) (line_no_end a)
      where
        right : {m : List ℕ} {u k : ℕ} {es : List Event} {e : Next} → LineAt d p m → Right names W (event u k es) m e → u ≡ 0 → k < length names → ⊥
        right c (Right.said f g o s) i j = not_hash s (line_one c a)
        right c (Right.timed g m l w) i j = g (i, j)

        out : {u k m i : ℕ} {es : List Event} → Outside names W d p (event u k es) m i → u ≡ 0 → k < length names → ⊥
        out (Outside.tick g c m l) i j = g (i, j)

  module _ {x p : ℕ} (h : Reached names W d (signal x) p) where
    -- "A `$var` line with another ID."
    pub other_id : (y : ℕ) (w : List ℕ) → LineAt d p (signal_line y w) → (y ≡ x → ⊥) → DumpFault names W d 22 p
    other_id y w a n = other_fault h (λ m e c r. right c r n) (λ m i o. out o n) (line_no_end a)
      where
        right : {x : ℕ} {m : List ℕ} {e : Next} → LineAt d p m → Right names W (signal x) m e → (y ≡ x → ⊥) → ⊥
        right c (Right.declared {x} l) n = n (signal_one y x w (get_or names x []) (line_one a c))
        right c (Right.upscoped l) n = not_upscope y w (line_one a c)

        out : {x m i : ℕ} → Outside names W d p (signal x) m i → (y ≡ x → ⊥) → ⊥
        out (Outside.name {x} {w = v} l c z) n = n (signal_one y x w v (line_one a c))

    -- "Or with a declared name in another's place."
    pub other_name : Differ names → (y : ℕ) → LineAt d p (signal_line x (get_or names y [])) → y < length names → (y ≡ x → ⊥) → DumpFault names W d 22 p
    other_name differ y a l n = other_fault h (λ m e c r. right c r a n) (λ m i o. out o a) (line_no_end a)
      where
        same : (x : ℕ) (w : List ℕ) → LineAt d p (signal_line x w) → LineAt d p (signal_line x (get_or names y [])) → w ≡ get_or names y []
        same x w c a = append_cancel_right w (get_or names y []) (bytes " $end") (value_one (var_key x) c a)

        right : {x : ℕ} {m : List ℕ} {e : Next} → LineAt d p m → Right names W (signal x) m e → LineAt d p (signal_line x (get_or names y [])) → (y ≡ x → ⊥) → ⊥
        right c (Right.declared {x} i) a n = n (sym (differ x y i l (same x (get_or names x []) c a)))
        right c (Right.upscoped {x} i) a n = not_upscope x (get_or names y []) (line_one a c)

        out : {x m i : ℕ} → Outside names W d p (signal x) m i → LineAt d p (signal_line x (get_or names y [])) → ⊥
        out (Outside.name {x} {w} i c z) a = z (rw (same x w c a) ((find_in (get_or names y []) names).0 (rw (find_back names differ y l) l)))
