-- The proved cases P1 to P10 (01, "Proved cases") as one table of texts: a sheet, readings, what `settle` prints for them, and what is so in every history.
-- Assumes nothing.
use Rattle.std.specs.Prelude.{◌≡◌, true, List, [], ◌∷◌, ℕ, pos}
use Prim.Native.String.{String, ◌++◌}
use Rattle.read_bytes.specs.Bytes.{bytes}
use Rattle.spec_tilco.specs.Meaning.{History, Obeys}
use Rattle.read_sheet.specs.Sheet.{Contents, meant}
use Rattle.open_sheet.specs.Results.{accepted}
use Rattle.open_sheet.specs.SheetIn.{sheet_in}
use Rattle.list_settled.specs.Prints.{Settles}

-- What is so in every history, although the listing does not tell it: nothing more; the signal of this number, from 0 in sheet order, is true at this
-- tick; or that no history exists.
pub data Although : Type 0 where
  nothing_more : Although
  true_at : ℕ → ℕ → Although
  no_history : Although

-- What that says of one history.
abbrev pub SaidOf : Although → History → Type 0
SaidOf nothing_more h = Unit {0}
SaidOf (true_at x t) h = h x (pos t) ≡ true
SaidOf no_history h = ⊥

-- The text of a sheet, the text of its readings, the listing, and what is so in every history.
pub record TextCase : Type 0 where
  pub sheet : String
  pub readings : String
  pub listing : String
  pub histories : Although

-- A case of these texts.
abbrev case : String → String → String → TextCase
case s r l = record { sheet = s; readings = r; listing = l; histories = nothing_more }

-- The case with what is so in every history.
infixl 20 ◌although◌
abbrev ◌although◌ : TextCase → Although → TextCase
◌although◌ e a = record { sheet = e.sheet; readings = e.readings; listing = e.listing; histories = a }

-- P1 the sheet and readings of the listing program give its listing, with the rules in the other order too.
abbrev p1_head : String
p1_head = "window=10\nsignals=3\nsignal=clear2\nsignal=go10\nsignal=open10\nrules=2\n"

abbrev p1_first : String
p1_first = "rule=clear2@[-3,0]=>go10\n"

abbrev p1_second : String
p1_second = "rule=go10=>open10@[2,2]\n"

abbrev p1_readings : String
p1_readings =
    "at=3\nsignal=clear2\nvalue=1\n" ++
    ("at=4\nsignal=clear2\nvalue=1\n" ++
    ("at=5\nsignal=clear2\nvalue=1\n" ++
    "at=6\nsignal=clear2\nvalue=1\n"))

abbrev p1_listing : String
p1_listing =
    "answer=0\nrows=15\nfacts=6\nclash=0\n" ++
    ("signal=clear2\nmarks=???1111???\n" ++
    ("signal=go10\nmarks=??????1???\n" ++
    "signal=open10\nmarks=????????1?\n"))

abbrev p1 : String → TextCase
p1 rules = case (p1_head ++ rules) p1_readings p1_listing

-- P2 window 2, `!a@[0,1]`: a false at 0 and 1.
abbrev p2 : TextCase
p2 =
    case "window=2\nsignals=1\nsignal=a\nrules=1\nrule=!a@[0,1]\n"
    ""
    "answer=0\nrows=5\nfacts=2\nclash=0\nsignal=a\nmarks=00\n"

-- P3 window 2, `!(a@[0,1])`, a true at 0: a false at 1.
abbrev p3 : TextCase
p3 =
    case "window=2\nsignals=1\nsignal=a\nrules=1\nrule=!(a@[0,1])\n"
    "at=0\nsignal=a\nvalue=1\n"
    "answer=0\nrows=5\nfacts=2\nclash=0\nsignal=a\nmarks=10\n"

-- P4 window 2, `a?[0,1]`, a false at 1: a true at 0, no clash.
abbrev p4 : TextCase
p4 =
    case "window=2\nsignals=1\nsignal=a\nrules=1\nrule=a?[0,1]\n"
    "at=1\nsignal=a\nvalue=0\n"
    "answer=0\nrows=4\nfacts=2\nclash=0\nsignal=a\nmarks=10\n"

-- P5 window 3, `a=>a@[1,1]`, a true at 0: true at all three.
abbrev p5 : TextCase
p5 =
    case "window=3\nsignals=1\nsignal=a\nrules=1\nrule=a=>a@[1,1]\n"
    "at=0\nsignal=a\nvalue=1\n"
    "answer=0\nrows=4\nfacts=3\nclash=0\nsignal=a\nmarks=111\n"

-- P6 the same, a false at 2: false at all three.
abbrev p6 : TextCase
p6 =
    case "window=3\nsignals=1\nsignal=a\nrules=1\nrule=a=>a@[1,1]\n"
    "at=2\nsignal=a\nvalue=0\n"
    "answer=0\nrows=4\nfacts=3\nclash=0\nsignal=a\nmarks=000\n"

-- P7 window 1, `a|b` and `a|!b`: a unsettled, although true in every history.
abbrev pub p7 : TextCase
p7 =
    case "window=1\nsignals=2\nsignal=a\nsignal=b\nrules=2\nrule=a|b\nrule=a|!b\n"
    ""
    "answer=0\nrows=5\nfacts=0\nclash=0\nsignal=a\nmarks=?\nsignal=b\nmarks=?\n"
    although true_at 0 0

-- P8 window 1, `a|b`, `a|!b`, `!a|b`, `!a|!b`: no clash, although no history exists.
abbrev pub p8 : TextCase
p8 =
    case "window=1\nsignals=2\nsignal=a\nsignal=b\nrules=4\nrule=a|b\nrule=a|!b\nrule=!a|b\nrule=!a|!b\n"
    ""
    "answer=0\nrows=10\nfacts=0\nclash=0\nsignal=a\nmarks=?\nsignal=b\nmarks=?\n"
    although no_history

-- P9 window 1, no rules, a true and false at 0: clash, two facts.
abbrev p9 : TextCase
p9 =
    case "window=1\nsignals=1\nsignal=a\nrules=0\n"
    "at=0\nsignal=a\nvalue=1\nat=0\nsignal=a\nvalue=0\n"
    "answer=0\nrows=1\nfacts=2\nclash=1\nsignal=a\nmarks=x\n"

-- P10 window 4, `c<=>since(a,b)`; a true at 1, false at 2 and 3; b true at 2, false at 3: c unsettled, unsettled, true, true (E2).
abbrev p10 : TextCase
p10 =
    case "window=4\nsignals=3\nsignal=a\nsignal=b\nsignal=c\nrules=1\nrule=c<=>since(a,b)\n"
    ("at=1\nsignal=a\nvalue=1\nat=2\nsignal=a\nvalue=0\nat=3\nsignal=a\nvalue=0\n" ++
    "at=2\nsignal=b\nvalue=1\nat=3\nsignal=b\nvalue=0\n")
    "answer=0\nrows=22\nfacts=7\nclash=0\nsignal=a\nmarks=?100\nsignal=b\nmarks=??10\nsignal=c\nmarks=??11\n"

-- P1 in both orders of its rules, then P2 to P10.
abbrev pub text_cases : List TextCase
text_cases = p1 (p1_first ++ p1_second) ∷ p1 (p1_second ++ p1_first) ∷ p2 ∷ p3 ∷ p4 ∷ p5 ∷ p6 ∷ p7 ∷ p8 ∷ p9 ∷ p10 ∷ []

-- Every history that obeys the sheet is as said.
abbrev pub InHistories : TextCase → Type 0
InHistories e = (k : Contents) → sheet_in (bytes e.sheet) ≡ accepted k → (h : History) → Obeys (meant k) h → SaidOf e.histories h

-- The listing is what `settle` prints for the sheet and the readings, nothing else is, and the histories are as said.
abbrev pub Settled : TextCase → Type 0
Settled e =
    Settles (bytes e.sheet) (bytes e.readings) (bytes e.listing)
    × ((l : List ℕ) → Settles (bytes e.sheet) (bytes e.readings) l → l ≡ bytes e.listing)
    × InHistories e
