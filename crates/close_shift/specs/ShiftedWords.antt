-- A word moved by k bits, and where a look's words and its child's stand to each other. Assumes nothing.
use Rattle.std.specs.Prelude.{◌≡◌, Bool, true, false, ℕ, ◌+◌, ◌-◌, ◌*◌, ◌/◌, ◌%◌, ◌^◌}
use Rattle.std.specs.Int.Bits.{bit_and}

-- A word moved by k bits, up or else down, as far as it stays among the bits of m.
abbrev pub shifted_word : Bool → ℕ → ℕ → ℕ → ℕ
shifted_word true m k w = bit_and m ((w * 2 ^ k) % 2 ^ 64)
shifted_word false m k w = bit_and m (w / 2 ^ k)

-- The lower ticks of a child's word q (true), or its upper ones, are looked at with the offset o from the word `end_of` less o / 64.
abbrev pub end_of : Bool → ℕ → ℕ
end_of true q = q
end_of false q = q + 1

-- They stand so many bits lower in their word than the ticks that look at them, or else higher.
abbrev pub apart : Bool → ℕ → ℕ
apart true o = 64 - o % 64
apart false o = o % 64

-- A look's ticks of word p look, with the offset o, at such ticks of its child's word q, k bits lower or else higher.
abbrev pub Beside : Bool → ℕ → ℕ → ℕ → ℕ → Type 0
Beside up p q o k = (end_of up q ≡ p + o / 64) × (k ≡ apart up o)
