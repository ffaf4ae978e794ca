-- The levels of the parser meet their contracts. A level's measure is what is left of the text, and its height. Assumes nothing.
-- In an answer `start` is where the function was called, `asked` what it requires, and `at_x` the place after x; `w` is how far a part came.
use Rattle.read_parts.proofs.Levels.{by, from, far, left, hand_on, then, leaf, wrap, shut, unshut, shut_keep, unshut_keep, hand_on_keep, held_next}
use Rattle.read_parts.proofs.Rooms.{on, room_for, bare}
use Rattle.read_parts.proofs.Steps.{deny_full, deny_on, paren_full, paren_on, keep_full, keep_on, kept_none, second_none, second_some, class_told, byte_inside, plain_letter, plain_digit, plain_other, plain_deny, plain_sign, plain_paren, plain_bracket, since_inside, until_inside, word_since, word_until, word_name, spelled_ahead, plain_found}
use Rattle.read_parts.proofs.Turns.{turn_first, turn_refused, turn_joinable, turn_joined, joined_ends, joined_on}
use Rattle.read_parts.specs.FormulaText.{timed_part}
use Rattle.read_parts.specs.Parsed.Parses.{refuses}
use Rattle.read_bytes.specs.Bytes.{byte}
use borrow.Author.Rules.{rules}
use mathlib.Core.Path.{refl, sym, ◌∙◌}
use native.Mathlib.Omega.{arith}
use Rattle.read_formula.proofs.+parser.Goals as goal

pub deny-returns-then-depth-eq0 : goal.deny-returns-then-depth-eq0
deny-returns-then-depth-eq0 t c = refuses (deny_full _ _ _ _ c.if-depth-eq0.true)

pub deny-plain_part-requires : goal.deny-plain_part-requires
deny-plain_part-requires t c =
    let asked = c.requires in
    (omega (arith, asked.inside), on asked.ready _ _ _ (omega (arith, asked.inside)) (omega arith) (omega arith) asked.ready.arena refl)

pub deny-returns-in_err-part : goal.deny-returns-in_err-part
deny-returns-in_err-part t c =
    by (deny_on _ _ _ _ c.if-depth-eq0.false) (hand_on _ c.in_err-part.ensures (search rules))

pub deny-overflow_sub-child : goal.deny-overflow_sub-child
deny-overflow_sub-child t c =
    let w = far c.in_ok-part.ensures in
    omega arith

pub deny-put_node-requires : goal.deny-put_node-requires
deny-put_node-requires t c =
    let asked = c.requires in
    let w = far c.in_ok-part.ensures in
    record { node_room = room_for asked.ready _ 1 (omega arith) (search rules); children_before = omega arith }

pub deny-overflow_add-count : goal.deny-overflow_add-count
deny-overflow_add-count t c =
    let asked = c.requires in
    let w = far c.in_ok-part.ensures in
    omega (arith, w.nodes, w.inside, asked.ready.room.few)

pub deny-returns : goal.deny-returns
deny-returns t c =
    let asked = c.requires in
    let w = far c.in_ok-part.ensures in
    by (deny_on _ _ _ _ c.if-depth-eq0.false) (wrap _ _ (omega arith) c.in_ok-part.ensures (room_for asked.ready _ 1 (omega arith) (search rules)) c.put_node.ensures)

pub level-loop-part-init : goal.level-loop-part-init
level-loop-part-init t c = turn_first c.requires

pub level-below-requires : goal.level-below-requires
level-below-requires t c = (omega (arith, c.loop-part.invariant.ahead), c.loop-part.invariant.ready)

pub level-returns-in_err-part : goal.level-returns-in_err-part
level-returns-in_err-part t c =
    turn_refused c.loop-part.invariant c.in_err-part.ensures (search rules)

pub level-join-nodes-requires : goal.level-join-nodes-requires
level-join-nodes-requires t c =
    turn_joinable c.loop-part.invariant c.in_ok-part.ensures (search rules)

pub level-goes_on-requires : goal.level-goes_on-requires
level-goes_on-requires t c =
    (far c.in_ok-part.ensures).inside

pub level-returns-then-not-goes_on : goal.level-returns-then-not-goes_on
level-returns-then-not-goes_on t c =
    let joined = turn_joined c.loop-part.invariant c.in_ok-part.ensures (search rules) c.join-nodes.ensures in
    joined_ends joined (sym c.goes_on.ensures ∙ c.if-not-goes_on.true)

pub level-overflow_add-place : goal.level-overflow_add-place
level-overflow_add-place t c =
    omega (arith, far c.in_ok-part.ensures)

pub level-loop-part-smaller : goal.level-loop-part-smaller
level-loop-part-smaller t c =
    omega (arith, far c.in_ok-part.ensures)

pub level-loop-part-preserved : goal.level-loop-part-preserved
level-loop-part-preserved t c =
    let joined = turn_joined c.loop-part.invariant c.in_ok-part.ensures (search rules) c.join-nodes.ensures in
    joined_on joined (sym c.goes_on.ensures ∙ c.if-not-goes_on.false) (rw c.text_of-text.ensures)

pub keep-returns-then-b-ne40 : goal.keep-returns-then-b-ne40
keep-returns-then-b-ne40 t c = refuses (kept_none _ _ _ _ (λ e. c.if-b-ne40.true (c.byte_at-b.ensures ∙ e)))

pub keep-returns-then-depth-eq0 : goal.keep-returns-then-depth-eq0
keep-returns-then-depth-eq0 t c =
    refuses (keep_full _ _ _ _ _ (sym c.byte_at-b.ensures ∙ c.if-b-ne40.false) c.if-depth-eq0.true)

pub keep-formula-requires : goal.keep-formula-requires
keep-formula-requires t c =
    let asked = c.requires in
    let i = byte_inside _ _ (byte "(") c.byte_at-b.ensures c.if-b-ne40.false (λ z. omega arith) in
    (omega (arith, i), on asked.ready _ _ _ (omega (arith, i)) (omega arith) (omega arith) asked.ready.arena refl)

pub keep-returns-in_err-part : goal.keep-returns-in_err-part
keep-returns-in_err-part t c =
    by (keep_on _ _ _ _ _ (sym c.byte_at-b.ensures ∙ c.if-b-ne40.false) c.if-depth-eq0.false) (hand_on _ c.in_err-part.ensures (search rules))

pub keep-second-requires : goal.keep-second-requires
keep-second-requires t c =
    let asked = c.requires in
    let w = far c.in_ok-part.ensures in
    (omega arith, record { ready = on asked.ready _ _ _ (omega arith) (omega arith) (omega arith) (left c.in_ok-part.ensures) (search rules); some = omega arith; numbered = omega arith; four = omega arith; within = w.inside })

pub keep-returns : goal.keep-returns
keep-returns t c =
    let asked = c.requires in
    let the-byte-at = c.byte_at-b in
    let the-if1 = c.if-b-ne40 in
    let the-if2 = c.if-depth-eq0 in
    let the_second = c.second in
    let w = far c.in_ok-part.ensures in
    by (keep_on _ _ _ _ _ (sym the-byte-at.ensures ∙ the-if1.false) the-if2.false)
    (then _ _ _ (omega (arith, asked.keyword)) (omega (arith, asked.keyword)) (omega arith) (omega (arith, asked.keyword)) c.in_ok-part.ensures
    (λ f hf hs. the_second.ensures f (held_next _ hf) (omega arith)))

pub operand-put_node-requires : goal.operand-put_node-requires
operand-put_node-requires t c =
    let asked = c.requires in
    let w = spelled_ahead _ _ (sym c.letter_at.ensures ∙ c.if-letter_at.true) in
    record { node_room = room_for asked _ 1 (omega (arith, w.ahead, w.inside)) refl; children_before = tt }

pub operand-returns-then-i-names : goal.operand-returns-then-i-names
operand-returns-then-i-names t c =
    let asked = c.requires in
    let f = c.find-f.ensures in
    let k = sym c.letter_at.ensures ∙ c.if-letter_at.true in
    let w = spelled_ahead _ _ k in
    leaf _ _ _ _ (plain_found _ _ c.args.names.now _ asked.names k f c.if-i-names.true) (omega (arith, w.ahead, f.ends)) (omega (arith, w.inside, f.ends)) asked.arena (room_for asked _ 1 (omega (arith, w.ahead, w.inside)) refl) c.put_node.ensures

pub operand-plain_part-requires : goal.operand-plain_part-requires
operand-plain_part-requires t c = (omega arith, search rules)

pub paren-returns-then-depth-eq0 : goal.paren-returns-then-depth-eq0
paren-returns-then-depth-eq0 t c = refuses (paren_full _ _ _ _ c.if-depth-eq0.true)

pub paren-formula-requires : goal.paren-formula-requires
paren-formula-requires t c =
    let asked = c.requires in
    (omega (arith, asked.inside), on asked.ready _ _ _ (omega (arith, asked.inside)) (omega arith) (omega arith) asked.ready.arena refl)

pub paren-returns-in_err-part : goal.paren-returns-in_err-part
paren-returns-in_err-part t c =
    by (paren_on _ _ _ _ c.if-depth-eq0.false) (hand_on _ c.in_err-part.ensures (search rules))

pub paren-returns-then-b-ne41 : goal.paren-returns-then-b-ne41
paren-returns-then-b-ne41 t c =
    by (paren_on _ _ _ _ c.if-depth-eq0.false) (unshut _ _ c.in_ok-part.ensures (λ e. c.if-b-ne41.true (c.byte_at-b.ensures ∙ e)) (λ f. refl))

pub paren-overflow_add-after : goal.paren-overflow_add-after
paren-overflow_add-after t c =
    let w = far c.in_ok-part.ensures in
    omega arith

pub paren-returns : goal.paren-returns
paren-returns t c =
    let w = far c.in_ok-part.ensures in
    let i = byte_inside _ _ (byte ")") c.byte_at-b.ensures c.if-b-ne41.false (λ z. omega arith) in
    by (paren_on _ _ _ _ c.if-depth-eq0.false) (shut _ _ (omega arith) c.in_ok-part.ensures (sym c.byte_at-b.ensures ∙ c.if-b-ne41.false) i)

pub plain_part-word-requires : goal.plain_part-word-requires
plain_part-word-requires t c =
    let asked = c.requires in
    (omega arith, record { ready = asked; letter = class_told _ _ c.byte_at-b.ensures c.class_of.ensures c.in-Letter.is })

pub plain_part-deny-requires : goal.plain_part-deny-requires
plain_part-deny-requires t c =
    let asked = c.requires in
    (omega arith, record { ready = asked; inside = byte_inside _ _ (byte "!") c.byte_at-b.ensures c.if-b-eq33.true (λ z. omega arith) })

pub plain_part-paren-requires : goal.plain_part-paren-requires
plain_part-paren-requires t c =
    let asked = c.requires in
    (omega arith, record { ready = asked; inside = byte_inside _ _ (byte "(") c.byte_at-b.ensures c.if-b-eq40.true (λ z. omega arith) })

pub plain_part-returns-in-Letter : goal.plain_part-returns-in-Letter
plain_part-returns-in-Letter t c =
    by (plain_letter _ _ _ _ (class_told _ _ c.byte_at-b.ensures c.class_of.ensures c.in-Letter.is)) c.word.ensures

pub plain_part-returns-then-b-eq33 : goal.plain_part-returns-then-b-eq33
plain_part-returns-then-b-eq33 t c =
    by (plain_deny _ _ _ _ (class_told _ _ c.byte_at-b.ensures c.class_of.ensures c.in-Sign.is) (sym c.byte_at-b.ensures ∙ c.if-b-eq33.true)) c.deny.ensures

pub plain_part-returns-else-b-eq33 : goal.plain_part-returns-else-b-eq33
plain_part-returns-else-b-eq33 t c =
    refuses (plain_sign _ _ _ _ (class_told _ _ c.byte_at-b.ensures c.class_of.ensures c.in-Sign.is) (λ e. c.if-b-eq33.false (c.byte_at-b.ensures ∙ e)))

pub plain_part-returns-then-b-eq40 : goal.plain_part-returns-then-b-eq40
plain_part-returns-then-b-eq40 t c =
    by (plain_paren _ _ _ _ (class_told _ _ c.byte_at-b.ensures c.class_of.ensures c.in-Bracket.is) (sym c.byte_at-b.ensures ∙ c.if-b-eq40.true)) c.paren.ensures

pub plain_part-returns-else-b-eq40 : goal.plain_part-returns-else-b-eq40
plain_part-returns-else-b-eq40 t c =
    refuses (plain_bracket _ _ _ _ (class_told _ _ c.byte_at-b.ensures c.class_of.ensures c.in-Bracket.is) (λ e. c.if-b-eq40.false (c.byte_at-b.ensures ∙ e)))

pub plain_part-returns-in-Digit : goal.plain_part-returns-in-Digit
plain_part-returns-in-Digit t c =
    refuses (plain_digit _ _ _ _ (class_told _ _ c.byte_at-b.ensures c.class_of.ensures c.in-Digit.is))

pub plain_part-returns-in-Other : goal.plain_part-returns-in-Other
plain_part-returns-in-Other t c =
    refuses (plain_other _ _ _ _ (class_told _ _ c.byte_at-b.ensures c.class_of.ensures c.in-Other.is))

pub second-returns-then-b-ne44 : goal.second-returns-then-b-ne44
second-returns-then-b-ne44 t c = λ f hf hs. refuses (second_none _ _ _ f _ (λ e. c.if-b-ne44.true (c.byte_at-b.ensures ∙ e)))

pub second-formula-requires : goal.second-formula-requires
second-formula-requires t c =
    let asked = c.requires in
    let i = byte_inside _ _ (byte ",") c.byte_at-b.ensures c.if-b-ne44.false (λ z. omega arith) in
    (omega (arith, i), on asked.ready _ _ _ (omega (arith, i)) (omega arith) (omega arith) asked.ready.arena refl)

pub second-returns-in_err-part : goal.second-returns-in_err-part
second-returns-in_err-part t c =
    λ f hf hs. by (second_some _ _ _ f _ (sym c.byte_at-b.ensures ∙ c.if-b-ne44.false)) (hand_on_keep _ _ f c.in_err-part.ensures (search rules))

pub second-returns-then-c-ne41 : goal.second-returns-then-c-ne41
second-returns-then-c-ne41 t c =
    λ f hf hs. by (second_some _ _ _ f _ (sym c.byte_at-b.ensures ∙ c.if-b-ne44.false)) (unshut_keep _ _ f c.in_ok-part.ensures (λ e. c.if-c-ne41.true (c.byte_at-c.ensures ∙ e)))

pub second-overflow_sub-right : goal.second-overflow_sub-right
second-overflow_sub-right t c =
    let w = far c.in_ok-part.ensures in
    omega arith

pub second-overflow_cast-row : goal.second-overflow_cast-row
second-overflow_cast-row t c =
    let asked = c.requires in
    omega (arith, asked.ready.rows)

pub second-put_keep-requires : goal.second-put_keep-requires
second-put_keep-requires t c =
    let asked = c.requires in
    let w = far c.in_ok-part.ensures in
    let i = byte_inside _ _ (byte ")") c.byte_at-c.ensures c.if-c-ne41.false (λ z. omega arith) in
    record { node_room = room_for asked.ready _ 6 (omega (arith, i)) (search rules); left_lt_count = (omega arith, omega arith) }

pub second-overflow_add-after : goal.second-overflow_add-after
second-overflow_add-after t c =
    let w = far c.in_ok-part.ensures in
    omega arith

pub second-overflow_add-count : goal.second-overflow_add-count
second-overflow_add-count t c =
    let asked = c.requires in
    let w = far c.in_ok-part.ensures in
    omega (arith, asked.ready.room.few)

pub second-returns : goal.second-returns
second-returns t c =
    let asked = c.requires in
    let the-byte-at = c.byte_at-b in
    let the-if1 = c.if-b-ne44 in
    let the-byte-at2 = c.byte_at-c in
    let the-if2 = c.if-c-ne41 in
    let the-put-keep = c.put_keep in
    let w = far c.in_ok-part.ensures in
    let i = byte_inside _ _ (byte ")") the-byte-at2.ensures the-if2.false (λ z. omega arith) in
    λ f hf hs. by (second_some _ _ _ f _ (sym the-byte-at.ensures ∙ the-if1.false))
    (shut_keep _ _ f c.in_ok-part.ensures _ _ _ asked.some (omega arith) asked.ready.arena hf hs (room_for asked.ready _ 6 (omega (arith, i)) (search rules)) the-put-keep.ensures (sym the-byte-at2.ensures ∙ the-if2.false) i)

pub timed-operand-requires : goal.timed-operand-requires
timed-operand-requires t c =
    let asked = c.requires in
    (omega arith, asked)

pub timed-returns-in_err-part : goal.timed-returns-in_err-part
unfolding timed_part
timed-returns-in_err-part t c =
    hand_on _ c.in_err-part.ensures (search rules)

pub timed-times_at-requires : goal.timed-times_at-requires
timed-times_at-requires t c =
    let asked = c.requires in
    let w = far c.in_ok-part.ensures in
    record { ready = bare (on asked _ _ _ w.inside (omega arith) (omega arith) (left c.in_ok-part.ensures) (search rules)); some = omega arith }

pub timed-returns : goal.timed-returns
unfolding timed_part
timed-returns t c =
    let w = far c.in_ok-part.ensures in
    then _ _ _ (omega arith) (omega arith) (omega arith) (omega arith) c.in_ok-part.ensures (λ f hf hs. c.times_at.ensures _ _ f (omega arith) hf hs)

pub word-keep-requires : goal.word-keep-requires
word-keep-requires t c =
    let asked = c.requires in
    let i = since_inside _ _ asked.ready.within c.is_since.ensures c.if-is_since.true in
    (omega arith, record { ready = on asked.ready _ _ _ (omega arith) (omega arith) (omega arith) asked.ready.arena refl; keyword = omega arith; within = i })

pub word-keep-requires-then-is_until : goal.word-keep-requires-then-is_until
word-keep-requires-then-is_until t c =
    let asked = c.requires in
    let i = until_inside _ _ asked.ready.within c.is_until.ensures c.if-is_until.true in
    (omega arith, record { ready = on asked.ready _ _ _ (omega arith) (omega arith) (omega arith) asked.ready.arena refl; keyword = omega arith; within = i })

pub word-returns-then-is_since : goal.word-returns-then-is_since
word-returns-then-is_since t c =
    by (word_since _ _ _ _ (sym c.is_since.ensures ∙ c.if-is_since.true)) (from (omega arith) c.keep.ensures)

pub word-returns-then-is_until : goal.word-returns-then-is_until
word-returns-then-is_until t c =
    by (word_until _ _ _ _ (sym c.is_since.ensures ∙ c.if-is_since.false) (sym c.is_until.ensures ∙ c.if-is_until.true)) (from (omega arith) c.keep-then-is_until.ensures)

pub word-returns-else-is_until : goal.word-returns-else-is_until
word-returns-else-is_until t c =
    by (word_name _ _ _ _ (sym c.is_since.ensures ∙ c.if-is_since.false) (sym c.is_until.ensures ∙ c.if-is_until.false)) c.name.ensures
