-- The bytes of a quoted text, the byte at a place, and the classes of bytes (01, "The sheet" and "Numbers of refusal").
-- Assumes nothing. A text is the list of its bytes.
use Rattle.std.specs.Prelude.{◌≡◌, ℕ, zero, suc, ◌+◌, ◌*◌, List, [], ◌∷◌, Bool, true, false, ◌&&◌, ◌||◌, length, get_or, drop, leb, eqb}
use Prim.Native.String.{String, len, char_at}
use Prim.Native.Char as Chr
use Rattle.read_bytes.specs.declared.bytes.Class.{Class}
use Rattle.read_bytes.specs.declared.bytes.Class.TheVariants.{Letter, Digit, Sign, Bracket, Other}

-- The n bytes of a quoted text from the place i on.
abbrev pub bytes_from : ℕ → ℕ → String → List ℕ
bytes_from zero i t = []
bytes_from (suc n) i t = Chr.code (char_at t i) ∷ bytes_from n (suc i) t

-- The bytes of a quoted text.
abbrev pub bytes : String → List ℕ
bytes t = bytes_from (len t) 0 t

-- The byte of a quoted sign.
abbrev pub byte : String → ℕ
byte t = Chr.code (char_at t 0)

-- The byte at a place, and LF past the end.
unfoldable pub peek : List ℕ → ℕ → ℕ
peek s p = get_or s p (byte "\n")

-- One of two by a test. The first is a function, so that it is computed only where the test holds.
abbrev pub pick : {A : Type 0} → Bool → (ℕ → A) → A → A
pick true k a = k 0
pick false k a = a

-- Is b from lo to hi?
abbrev pub between : ℕ → ℕ → ℕ → Bool
between lo hi b = leb lo b && leb b hi

-- Is b one of the bytes?
abbrev pub one_of : ℕ → List ℕ → Bool
one_of b [] = false
one_of b (x ∷ xs) = eqb b x || one_of b xs

-- Is b a lower-case letter?
abbrev pub letter : ℕ → Bool
letter b = between (byte "a") (byte "z") b

-- Is b a digit?
abbrev pub digit : ℕ → Bool
digit b = between (byte "0") (byte "9") b

-- The class of a byte: tokens are made of letters, digits, brackets and signs.
unfoldable pub class_of : ℕ → Class
class_of b =
    pick (letter b) (λ _. Letter)
    (pick (digit b) (λ _. Digit)
    (pick (one_of b (bytes "()[]")) (λ _. Bracket)
    (pick (one_of b (bytes "!&|=<>@?,-")) (λ _. Sign) Other)))

-- Is b a byte of a name: a letter or a digit?
unfoldable pub name_byte : ℕ → Bool
name_byte b = letter b || digit b

-- Do the bytes w stand at p?
unfoldable pub starts : List ℕ → ℕ → List ℕ → Bool
starts s p [] = true
starts s p (x ∷ w) = eqb x (peek s p) && starts s (p + 1) w

-- The four bytes at p as one number, the first the least.
unfoldable pub four_at : List ℕ → ℕ → ℕ
four_at s p = get_or s p 0 + 256 * get_or s (p + 1) 0 + 65536 * get_or s (p + 2) 0 + 16777216 * get_or s (p + 3) 0

-- The bytes that a text starts with and that pass a test, up to the first that does not.
unfoldable pub run : (ℕ → Bool) → List ℕ → List ℕ
run P [] = []
run P (x ∷ s) = pick (P x) (λ _. x ∷ run P s) []

-- Those of the text from p on.
unfoldable pub run_at : (ℕ → Bool) → List ℕ → ℕ → List ℕ
run_at P s p = run P (drop p s)

-- The place after them: that of the first byte from p on that does not pass, or the text's length.
unfoldable pub run_end : (ℕ → Bool) → List ℕ → ℕ → ℕ
run_end P s p = p + length (run_at P s p)

-- Does every byte of the text pass the test?
unfoldable pub every : (ℕ → Bool) → List ℕ → Bool
every P [] = true
every P (x ∷ s) = P x && every P s

-- No byte of the text is LF.
abbrev pub InLine : List ℕ → Type 0
InLine [] = Unit {0}
InLine (x ∷ w) = (x ≡ byte "\n" → ⊥) × InLine w
