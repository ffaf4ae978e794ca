-- The tokens of a text up to a place: one list for each place, longer for places further on, and all of them inside the text.
-- Assumes nothing.
use mathlib.Core.Path.{◌≡◌, refl, sym, ap, subst, ◌∙◌}
use mathlib.Core.Bool.{true}
use mathlib.Core.List.{List, [], ◌∷◌, ◌++◌, append-nil}
use Prim.Native.Nat.{ℕ, ◌+◌, ◌≤◌, ◌<◌}
use native.Mathlib.Omega.{arith}
use lib.ListN.{length}
use Rattle.read_bytes.specs.Bytes.{bytes, peek, one_of, letter}
use Rattle.read_bytes.proofs.Places.{inside_test}
use Rattle.spec_grammar.specs.Tokens.{signs, Token, TokenAt, Tokens}
use Rattle.spec_grammar.proofs.Standing.{token_one, next_is, none_is}
use Rattle.spec_grammar.proofs.Signs.{among, token_some}
use Rattle.spec_grammar.proofs.Complete.{tokens_ahead}
use Rattle.spec_grammar.proofs.Walk.{first_of, word_letter, end_byte, end_byte_lem}
use Rattle.spec_grammar.proofs.TimedFaults.{token_first}

-- A token takes a byte at least.
some_token : {s : List ℕ} {p q : ℕ} (w : List ℕ) (ws : List (List ℕ)) → Tokens s q p (w ∷ ws) → p < q
some_token w ws b =
    let n = next_is b in
    let l = tokens_ahead ws n.1 in
    let t = token_some n.0.token in
    let k = ap length t.2 in
    omega arith

-- The tokens up to i begin those up to a place κ further on.
pub tokens_upto : {s : List ℕ} {p i κ : ℕ} (us ws : List (List ℕ)) → Tokens s i p us → Tokens s κ p ws → i ≤ κ → (rest : List (List ℕ)) × (ws ≡ us ++ rest) × Tokens s κ i rest
tokens_upto {s} {κ = κ} [] ws a b l = (ws, refl, subst (λ x. Tokens s κ x ws) (none_is a) b)
tokens_upto (u ∷ us) [] a b l = let i = some_token u us a in let j = none_is b in let z : ⊥ = omega arith in absurd z
tokens_upto {s} {p} {κ = κ} (u ∷ us) (w ∷ ws) a b l =
    let x = next_is a in
    let y = next_is b in
    let i = token_one x.0 y.0 in
    let r = tokens_upto {p = p + length u} us ws x.1 (subst (λ z. Tokens s κ (p + length z) ws) (sym i) y.1) l in
    let j = r.1 in
    (r.0, (let z : w ∷ ws ≡ u ∷ (us ++ r.0) = cc in z), r.2)

pub tokens_one : {s : List ℕ} {p q : ℕ} (us ws : List (List ℕ)) → Tokens s q p us → Tokens s q p ws → us ≡ ws
tokens_one us ws a b = let r = tokens_upto us ws a b (omega arith) in sym (r.1 ∙ none r.0 r.2)
  where
    none : {s : List ℕ} {q : ℕ} (rest : List (List ℕ)) → Tokens s q q rest → us ++ rest ≡ us
    none [] h = append-nil us
    none (w ∷ rest) h = let l = some_token w rest h in let z : ⊥ = omega arith in absurd z

-- And the token at i comes next.
pub tokens_past : {s : List ℕ} {p i κ : ℕ} (us ws : List (List ℕ)) → Tokens s i p us → Tokens s κ p ws → i < κ → (w : List ℕ) × (rest : List (List ℕ)) × (ws ≡ us ++ (w ∷ rest)) × TokenAt s i w
tokens_past {s} {i = i} {κ} us ws a b l = let r = tokens_upto us ws a b (omega arith) in go r.0 r.1 r.2
  where
    go : (rest : List (List ℕ)) → ws ≡ us ++ rest → Tokens s κ i rest → (w : List ℕ) × (rest : List (List ℕ)) × (ws ≡ us ++ (w ∷ rest)) × TokenAt s i w
    go [] e h = let j = none_is h in let z : ⊥ = omega arith in absurd z
    go (w ∷ rest) e h = (w, rest, e, (next_is h).0)

-- A token stands inside the text.
pub token_inside : {s : List ℕ} {p : ℕ} {w : List ℕ} → TokenAt s p w → p < length s
token_inside {s} {p} {w} a = go a.token (token_first a)
  where
    go : {w : List ℕ} → Token w → first_of w ≡ peek s p → p < length s
    go (Token.word k) e = inside_test s p letter refl (ap letter (sym e) ∙ word_letter k)
    go (Token.end k) e = inside_test s p end_byte refl (ap end_byte (sym e) ∙ end_byte_lem k)
    go (Token.sign m) e =
        inside_test s p (λ b. one_of b (bytes "=<!&|@?()[],")) refl
        (ap (λ b. one_of b (bytes "=<!&|@?()[],")) (sym e)
        ∙ among (λ w. one_of (first_of w) (bytes "=<!&|@?()[],") ≡ true) signs
        (refl, (refl, (refl, (refl, (refl, (refl, (refl, (refl, (refl, (refl, (refl, (refl, tt)))))))))))) m)
