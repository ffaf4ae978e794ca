-- The kinds of rows as the code names them, and the numbers that row codes have for them (`row_at`). Assumes nothing.
use Rattle.std.specs.Prelude.{◌≡◌, ℕ, ◌≤◌}
use Rattle.close_rules.specs.declared.Kind.{Kind}
use Rattle.close_rules.specs.declared.Kind.TheVariants.{Signal, And, Or, Look, Not}

-- The number is that of the kind.
abbrev pub HasKind : Kind → ℕ → Type 0
HasKind Signal k = k ≡ 0
HasKind And k = k ≡ 1
HasKind Or k = k ≡ 2
HasKind Look k = k ≡ 3
HasKind Not k = 4 ≤ k
