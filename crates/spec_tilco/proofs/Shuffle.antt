-- The rows of a sheet's rules are found among those of any sheet that has these rules, in whatever order and however often.
-- Assumes that every name is declared.
use mathlib.Core.Path.{◌≡◌, refl, sym, ◌∙◌, ap, subst}
use mathlib.Core.Bool.{Bool, true}
use mathlib.Core.List.Memᴰ
use mathlib.Core.List.{List, [], ◌∷◌, ◌++◌, map-append, Memᴰ}
use mathlib.Core.Logic.{◌⊎◌, inl, inr}
use Prim.Native.Nat.{ℕ, ◌+◌, ◌<◌}
use native.Mathlib.Nat.{zero-add}
use native.Mathlib.Omega.{arith}
use lib.ListN.{replicate, length-replicate}
use Rattle.spec_tilco.specs.Lists.{All, total, laid}
use Rattle.spec_tilco.specs.Formula.{Written, hiddens, spelled, Sheet, signal_rows, with_rules, Named, Declared}
use Rattle.spec_tilco.specs.Inference.{Node, signal, Program, node, Mark, mark, Marks, One, down_left, down_right, up_left, up_right, look_down, look_up, not_down, not_up, Two, up_both, rest_right, rest_left, Derives, start, top, one, two, Clash}
use Rattle.spec_tilco.specs.Lowering.{BTL, lowered, size, top_of, rows_of, rows_all, tops_all, lows, program}
use Rattle.spec_tilco.specs.Table.{Leads}
use Rattle.spec_tilco.proofs.Lists.{laid_append}
use Rattle.spec_tilco.proofs.At.{At, at_left, at_right, at_append, at_self}
use Rattle.spec_tilco.proofs.Rows.{length_rows_all, every_row}
use Rattle.spec_tilco.proofs.Relocation.{Kept, Slides, rows_kept, tops_kept, rule_ren}
use Rattle.spec_tilco.proofs.Counts.{weight, rule_size, lows_all}
use Rattle.spec_tilco.proofs.Place.{Part, place, Follows, from_zero, here, later, past}

-- ---- programs: what one leads to, another leads to that has its rows

abbrev pub renamed : (ℕ → ℕ) → Mark → Mark
renamed f (mark r t v) = mark (f r) t v

-- f carries the rows and the tops of one program into another's.
pub record Carries (P Q : Program) (f : ℕ → ℕ) : Type 0 where
  pub nodes : (r : ℕ) → Kept f (node Q) r (node P r)
  pub tops : (r : ℕ) → Memᴰ r P.tops → Memᴰ (f r) Q.tops

module _ {P Q : Program} {f : ℕ → ℕ} (F : Carries P Q f) where
  moved_node : (r : ℕ) {n : Node} → node P r ≡ n → Kept f (node Q) r n
  moved_node r e = subst (Kept f (node Q) r) e (F.nodes r)

  one_renamed : {W : ℕ} {p m : Mark} → One P W p m → One Q W (renamed f p) (renamed f m)
  one_renamed (down_left {r} e) = down_left (moved_node r e)
  one_renamed (down_right {r} e) = down_right (moved_node r e)
  one_renamed (up_left {r} e) = up_left (moved_node r e)
  one_renamed (up_right {r} e) = up_right (moved_node r e)
  one_renamed (look_down {r} e z h k) = look_down (moved_node r e) z h k
  one_renamed (look_up {r} e z h k) = look_up (moved_node r e) z h k
  one_renamed (not_down {r} e) = not_down (moved_node r e)
  one_renamed (not_up {r} e) = not_up (moved_node r e)

  two_renamed : {p q m : Mark} → Two P p q m → Two Q (renamed f p) (renamed f q) (renamed f m)
  two_renamed (up_both {r} e) = up_both (moved_node r e)
  two_renamed (rest_right {r} e) = rest_right (moved_node r e)
  two_renamed (rest_left {r} e) = rest_left (moved_node r e)

  pub carried : {W : ℕ} {S R : Marks} → ((m : Mark) → S m → R (renamed f m)) → {m : Mark} → Derives P W S m → Derives Q W R (renamed f m)
  carried g (start {m} s) = start (g m s)
  carried g (top {r} i h) = top (F.tops r i) h
  carried g (one r d) = one (one_renamed r) (carried g d)
  carried g (two r d e) = two (two_renamed r) (carried g d) (carried g e)

-- ---- where a rule of a list has its hidden signals and its rows

-- The place of an entry, where the entries follow one another from b on.
spot : {A : Type 0} {x : A} {xs : List A} → (A → ℕ) → ℕ → Memᴰ x xs → ℕ
spot size b (Memᴰ.head e) = b
spot size b (Memᴰ.tail {x = v} i) = spot size (b + size v) i

-- rows and tops alike: the first rule's, then the others'
first_rule : {B : Type 0} (g : BTL → ℕ → List B) (w : Written) (ws : List Written) (x b : ℕ)
    → laid size g (lows_all (w ∷ ws) x) b ≡ laid size g (lows (spelled w x)) b ++ laid size g (lows_all ws (x + hiddens w)) (b + weight w)
first_rule g w ws x b =
    ap (λ (l : List BTL). laid size g l b) (map-append (lowered true) (spelled w x) (laid hiddens spelled ws (x + hiddens w)))
    ∙ laid_append size g (lows (spelled w x)) (lows_all ws (x + hiddens w)) b (b + weight w) (omega (arith, rule_size x w))

-- Row r of the other program is n.
abbrev Is : (ℕ → Node) → ℕ → Node → Type 0
Is N r n = N r ≡ n

spot_rows : (N : ℕ → Node) {w : Written} {vs : List Written} (x b : ℕ) (i : Memᴰ w vs) → At (Is N) b (rows_all (lows_all vs x) b)
    → At (Is N) (spot weight b i) (rows_all (lows (spelled w (spot hiddens x i))) (spot weight b i))
unfolding spot
spot_rows N x b (Memᴰ.head {x = v} {xs = vs} e) s =
    subst (λ (w : Written). At (Is N) b (rows_all (lows (spelled w x)) b)) (sym e)
    (at_left (Is N) b (rows_all (lows (spelled v x)) b) (rows_all (lows_all vs (x + hiddens v)) (b + weight v)) (subst (At (Is N) b) (first_rule rows_of v vs x b) s))
spot_rows N x b (Memᴰ.tail {x = v} {xs = vs} i) s =
    spot_rows N (x + hiddens v) (b + weight v) i
    (at_right (Is N) b (b + weight v) (rows_all (lows (spelled v x)) b) (rows_all (lows_all vs (x + hiddens v)) (b + weight v))
    (omega (arith, length_rows_all (lows (spelled v x)) b, rule_size x v)) (subst (At (Is N) b) (first_rule rows_of v vs x b) s))

abbrev top_at : BTL → ℕ → List ℕ
top_at c b = top_of c b ∷ []

spot_tops : {w : Written} {vs : List Written} (x b : ℕ) (i : Memᴰ w vs) (r : ℕ) → Memᴰ r (tops_all (lows (spelled w (spot hiddens x i))) (spot weight b i))
    → Memᴰ r (tops_all (lows_all vs x) b)
unfolding spot
spot_tops x b (Memᴰ.head {x = v} {xs = vs} e) r j =
    subst (Memᴰ r) (sym (first_rule top_at v vs x b)) (Memᴰ.append_left _ (subst (λ (w : Written). Memᴰ r (tops_all (lows (spelled w x)) b)) e j))
spot_tops x b (Memᴰ.tail {x = v} {xs = vs} i) r j =
    subst (Memᴰ r) (sym (first_rule top_at v vs x b)) (Memᴰ.append_right (tops_all (lows (spelled v x)) b) (spot_tops (x + hiddens v) (b + weight v) i r j))

-- ---- the map of rows

-- Each rule of ws is one of vs.
abbrev pub AllIn : List Written → List Written → Type 0
AllIn vs ws = All (λ w. Memᴰ w vs) ws

-- Each rule's part goes to where the rule has it among vs, whose parts follow one another from b on.
abbrev moves : (Written → ℕ) → ℕ → (vs ws : List Written) → AllIn vs ws → List Part
moves size b vs [] ms = []
moves size b vs (w ∷ ws) ms = record { to = spot size b ms.0; len = size w } ∷ moves size b vs ws ms.1

total_moves : (size : Written → ℕ) (b : ℕ) (vs ws : List Written) (ms : AllIn vs ws) → total (λ g. g.len) (moves size b vs ws ms) ≡ total size ws
total_moves size b vs [] ms = refl
total_moves size b vs (w ∷ ws) ms = ap (λ (k : ℕ). size w + k) (total_moves size b vs ws ms.1)

module _ (n q : ℕ) (vs : List Written) (f : ℕ → ℕ) (fixed : (i : ℕ) → i < n → f i ≡ i) (rest : List Part) where
  rows_found : (N : ℕ → Node) → At (Is N) q (rows_all (lows_all vs n) q)
      → (ws : List Written) (ms : AllIn vs ws) (x b : ℕ) → All (Named n) ws → Follows f x (moves hiddens n vs ws ms ++ rest) → Follows f b (moves weight q vs ws ms)
      → At (Kept f N) b (rows_all (lows_all ws x) b)
  rows_found N s [] ms x b d FX FB = tt
  rows_found N s (w ∷ ws) ms x b d FX FB =
      subst (At (Kept f N) b) (sym (first_rule rows_of w ws x b))
      (at_append (Kept f N) b (b + weight w) (rows_all (lows (spelled w x)) b) _ (omega (arith, length_rows_all (lows (spelled w x)) b, rule_size x w))
      (rows_kept f N (lows (spelled w x)) b (spot weight q ms.0) (subst (Slides f b (spot weight q ms.0)) (sym (rule_size x w)) (here FB))
      (subst (λ (cs : List BTL). At (Is N) (spot weight q ms.0) (rows_all cs (spot weight q ms.0)))
      (rule_ren f n fixed x (spot hiddens n ms.0) w d.0 (here FX))
      (spot_rows N n q ms.0 s)))
      (rows_found N s ws ms.1 (x + hiddens w) (b + weight w) d.1 (later FX) (later FB)))

  tops_found : (ws : List Written) (ms : AllIn vs ws) (x b : ℕ) → All (Named n) ws → Follows f x (moves hiddens n vs ws ms ++ rest) → Follows f b (moves weight q vs ws ms)
      → (r : ℕ) → Memᴰ r (tops_all (lows_all ws x) b) → Memᴰ (f r) (tops_all (lows_all vs n) q)
  tops_found [] ms x b d FX FB r i = absurd (Memᴰ.not-nil i)
  tops_found (w ∷ ws) ms x b d FX FB r i =
      go (Memᴰ.append_cases (tops_all (lows (spelled w x)) b) (subst (Memᴰ r) (first_rule top_at w ws x b) i))
      (tops_found ws ms.1 (x + hiddens w) (b + weight w) d.1 (later FX) (later FB) r)
    where
      go : Memᴰ r (tops_all (lows (spelled w x)) b) ⊎ Memᴰ r (tops_all (lows_all ws (x + hiddens w)) (b + weight w))
          → (Memᴰ r (tops_all (lows_all ws (x + hiddens w)) (b + weight w)) → Memᴰ (f r) (tops_all (lows_all vs n) q))
          → Memᴰ (f r) (tops_all (lows_all vs n) q)
      go (inl j) k =
          spot_tops n q ms.0 (f r)
          (subst (λ (cs : List BTL). Memᴰ (f r) (tops_all cs (spot weight q ms.0))) (sym (rule_ren f n fixed x (spot hiddens n ms.0) w d.0 (here FX)))
          (tops_kept f (lows (spelled w x)) b (spot weight q ms.0) (subst (Slides f b (spot weight q ms.0)) (sym (rule_size x w)) (here FB)) r j))
      go (inr j) k = k j

-- Where s's rules are all among vs, a map of rows carries s's program into that of the sheet with the rules vs, and moves no declared signal.
pub record Found (s : Sheet) (vs : List Written) : Type 0 where
  pub map : ℕ → ℕ
  pub fixed : (i : ℕ) → i < s.signals → map i ≡ i
  pub carries : Carries (program s) (program (with_rules s vs)) map

module _ (s : Sheet) (declared : Declared s) (vs : List Written) (ms : AllIn vs s.rules) where
  pub found : Found s vs
  found = record { map = f; fixed = fixed; carries = record { nodes = nodes; tops = tops } }
    where
      n : ℕ
      n = s.signals

      p : ℕ
      p = signal_rows s

      q : ℕ
      q = signal_rows (with_rules s vs)

      rest : List Part
      rest = moves weight q vs s.rules ms

      hidden : List Part
      hidden = moves hiddens n vs s.rules ms ++ rest

      f : ℕ → ℕ
      f = place (record { to = 0; len = n } ∷ hidden)

      all : Follows f 0 (record { to = 0; len = n } ∷ hidden)
      all = from_zero (record { to = 0; len = n } ∷ hidden)

      fixed : (i : ℕ) → i < n → f i ≡ i
      fixed i h = ap f (sym (zero-add i)) ∙ here all i h ∙ zero-add i

      FX : Follows f n hidden
      FX = subst (λ (z : ℕ). Follows f z hidden) (zero-add n) (later all)

      FB : Follows f p rest
      FB = past f n p (moves hiddens n vs s.rules ms) rest (ap (λ (z : ℕ). n + z) (sym (total_moves hiddens n vs s.rules ms))) FX

      N : ℕ → Node
      N = node (program (with_rules s vs))

      there : At (Is N) q (rows_all (lows_all vs n) q)
      there =
          at_right (Is N) 0 q (replicate q signal) (rows_all (lows_all vs n) q) (omega (arith, length-replicate q signal))
          (at_self signal N 0 (replicate q signal ++ rows_all (lows_all vs n) q) (λ i h. ap N (zero-add i)))

      nodes : (r : ℕ) → Kept f N r (node (program s) r)
      nodes = every_row (Kept f N) (λ r. tt) p (lows_all s.rules n) (rows_found n q vs f fixed rest N there s.rules ms n p declared FX FB)

      tops : (r : ℕ) → Memᴰ r (program s).tops → Memᴰ (f r) (program (with_rules s vs)).tops
      tops r i = tops_found n q vs f fixed rest s.rules ms n p declared FX FB r i

  -- Start marks at declared signals.
  module _ (S : Marks) (on_signals : (r t : ℕ) (v : Bool) → S (mark r t v) → r < s.signals) where
    kept_start : (m : Mark) → S m → S (renamed found.map m)
    kept_start (mark r t v) i = subst (λ (z : ℕ). S (mark z t v)) (sym (found.fixed r (on_signals r t v i))) i

    -- A derived mark of a declared signal is derived under the other rules too,
    pub values_kept : (x t : ℕ) (v : Bool) → x < s.signals → Leads s S (mark x t v) → Leads (with_rules s vs) S (mark x t v)
    values_kept x t v l i = subst (λ (z : ℕ). Leads (with_rules s vs) S (mark z t v)) (found.fixed x l) (carried found.carries kept_start i)

    -- and so is a clash.
    pub clash_kept : Clash (Leads s S) → Clash (Leads (with_rules s vs) S)
    clash_kept c = record {
      row = found.map c.row;
      tick = c.tick;
      holds = carried found.carries kept_start c.holds;
      fails = carried found.carries kept_start c.fails;
    }
