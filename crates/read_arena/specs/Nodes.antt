-- Nodes as numbers: what stands in the buffer, and what putting a node makes of it.
-- Assumes nothing.
use Rattle.std.specs.Prelude.{Bool, true, false, List, [], ◌∷◌, ℕ, zero, suc, ◌+◌, ◌*◌, get_or}
use Rattle.std.proofs.lemmas.List.Edits.{sets}
use Rattle.spec_tilco.specs.Formula.{Op, step_of}
use Rattle.read_arena.specs.declared.Sign.{Sign}
use Rattle.read_arena.specs.declared.Node.{Node}
use Rattle.read_arena.specs.declared.Node.TheVariants.{Name, Deny, Pair, Time, Keep}

-- The sign that a rule is written with.
abbrev pub op_of : Sign → Op
op_of Sign.And = Op.And
op_of Sign.Or = Op.Or
op_of Sign.Implies = Op.Implies
op_of Sign.Iff = Op.Iff

-- The sign's number.
abbrev pub sign_number : Sign → ℕ
sign_number Sign.And = 0
sign_number Sign.Or = 1
sign_number Sign.Implies = 2
sign_number Sign.Iff = 3

-- The sign with a number.
unfoldable pub sign_of : ℕ → Sign
sign_of zero = Sign.And
sign_of (suc zero) = Sign.Or
sign_of (suc (suc zero)) = Sign.Implies
sign_of (suc (suc (suc z))) = Sign.Iff

-- A node of a kind, with its numbers x, y and z.
unfoldable pub node_of : ℕ → ℕ → ℕ → ℕ → Node
node_of zero x y z = Name x
node_of (suc zero) x y z = Deny x
node_of (suc (suc zero)) x y z = Pair (sign_of z) x y
node_of (suc (suc (suc zero))) x y z = Time true x y z
node_of (suc (suc (suc (suc zero)))) x y z = Time false x y z
node_of (suc (suc (suc (suc (suc zero))))) x y z = Keep true x y z
node_of (suc (suc (suc (suc (suc (suc k)))))) x y z = Keep false x y z

-- Node n of a buffer: its kind and its three numbers stand from place 4 n on.
unfoldable pub node_at : List ℕ → ℕ → Node
node_at a n = node_of (get_or a (4 * n) 0) (get_or a (4 * n + 1) 0) (get_or a (4 * n + 2) 0) (get_or a (4 * n + 3) 0)

-- A node's four numbers.
unfoldable pub code_of : Node → List ℕ
code_of (Name x) = 0 ∷ x ∷ 0 ∷ 0 ∷ []
code_of (Deny x) = 1 ∷ x ∷ 0 ∷ 0 ∷ []
code_of (Pair s x y) = 2 ∷ x ∷ y ∷ sign_number s ∷ []
code_of (Time true x first more) = 3 ∷ x ∷ first ∷ more ∷ []
code_of (Time false x first more) = 4 ∷ x ∷ first ∷ more ∷ []
code_of (Keep true x y row) = 5 ∷ x ∷ y ∷ row ∷ []
code_of (Keep false x y row) = 6 ∷ x ∷ y ∷ row ∷ []

-- The buffer with node k at number c.
unfoldable pub put_node : List ℕ → ℕ → Node → List ℕ
put_node a c k = sets a (4 * c) (code_of k)

-- The buffer with nodes one after the other from number c on.
unfoldable pub put_nodes : List ℕ → ℕ → List Node → List ℕ
put_nodes a c [] = a
put_nodes a c (k ∷ ks) = put_nodes (put_node a c k) (suc c) ks

-- A since or an until from number c on, its arguments A at l and B at r: the defining rule of its hidden signal x, in five nodes, then its
-- own node.
abbrev pub keep_nodes : ℕ → Bool → ℕ → ℕ → ℕ → List Node
keep_nodes c b x l r =
    Name x ∷ Pair Sign.And r c ∷ Pair Sign.Or l (c + 1) ∷ Time true (c + 2) (step_of b) 0 ∷ Pair Sign.Iff c (c + 3) ∷ Keep b l r x ∷ []

-- The buffer with that.
unfoldable pub put_keep : List ℕ → ℕ → Bool → ℕ → ℕ → ℕ → List ℕ
put_keep a c b x l r = put_nodes a c (keep_nodes c b x l r)
