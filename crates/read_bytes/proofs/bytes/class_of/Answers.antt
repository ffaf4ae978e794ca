-- `class_of` meets its contract: each arm of the match is a run of bytes, or single bytes. Assumes nothing.
use native.Mathlib.Omega.{arith}
use mathlib.Core.Path.{refl}
use mathlib.Core.List.{[]}
use mathlib.Core.Logic.{inl, inr, ⊎_elim}
use borrow.Author.Tests.{ne_eqb}
use Rattle.read_bytes.specs.declared.bytes.Class.TheVariants.{Letter, Digit, Sign, Bracket, Other}
use Rattle.read_bytes.specs.Bytes.{class_of, bytes}
use Rattle.read_bytes.proofs.Tests.{all_from}
use Rattle.read_bytes.proofs.Classes.{tag, class_run}
use Rattle.read_bytes.proofs.bytes.class_of.Goals as goal

pub returns-in-48-to-57 : goal.returns-in-48-to-57
unfolding all_from class_of tag
returns-in-48-to-57 c =
    class_run Digit [] 10 48 refl c.args.b (omega arith) (omega arith) refl

pub returns-in-97-to-122 : goal.returns-in-97-to-122
unfolding all_from class_of tag
returns-in-97-to-122 c =
    class_run Letter [] 26 97 refl c.args.b (omega arith) (omega arith) refl

pub returns-in_default : goal.returns-in_default
unfolding all_from class_of tag
returns-in_default c = class_run Other (bytes "!&") 40 0 refl c.args.b (omega arith) (omega arith) (rw (ne_eqb c.args.b 33 (λ e. c.in_default.in_default-own.rest.1 (inl e)), ne_eqb c.args.b 38 (λ e. c.in_default.in_default-own.rest.1 (inr (inl e)))))

pub returns-in_default-2 : goal.returns-in_default-2
unfolding all_from class_of tag
returns-in_default-2 c =
    class_run Other [] 2 42 refl c.args.b (omega arith) (omega arith) refl

pub returns-in_default-3 : goal.returns-in_default-3
unfolding all_from class_of tag
returns-in_default-3 c =
    class_run Other [] 2 46 refl c.args.b (omega arith) (omega arith) refl

pub returns-in_default-4 : goal.returns-in_default-4
unfolding all_from class_of tag
returns-in_default-4 c = class_run Other [] 2 58 refl c.args.b (omega arith) (omega arith) refl

pub returns-in_default-5 : goal.returns-in_default-5
unfolding all_from class_of tag
returns-in_default-5 c =
    class_run Other (bytes "[]") 32 65 refl c.args.b (omega arith) (omega arith) (rw (ne_eqb c.args.b 91 (λ e. c.in_default.in_default-own.rest.0.1 (inl e)), ne_eqb c.args.b 93 (λ e. c.in_default.in_default-own.rest.0.1 (inr e))))

pub returns-in_default-6 : goal.returns-in_default-6
unfolding all_from class_of tag
returns-in_default-6 c =
    class_run Other (bytes "|") 133 123 refl c.args.b (omega arith) (omega arith) (rw (ne_eqb c.args.b 124 (λ e. c.in_default.in_default-own.rest.1 (inr (inr e)))))

pub returns-in-40 : goal.returns-in-40
unfolding class_of
returns-in-40 c = ⊎_elim (λ e. rw e) (λ e. rw e) c.in-40.is

pub returns-in-40-2 : goal.returns-in-40-2
unfolding all_from class_of tag
returns-in-40-2 c =
    class_run Bracket [] 2 40 refl c.args.b (omega arith) (omega arith) refl

pub returns-in-33 : goal.returns-in-33
unfolding class_of
returns-in-33 c = ⊎_elim (λ e. rw e) (⊎_elim (λ e. rw e) (λ e. rw e)) c.in-33.is

pub returns-in-33-2 : goal.returns-in-33-2
unfolding all_from class_of tag
returns-in-33-2 c =
    class_run Sign [] 2 44 refl c.args.b (omega arith) (omega arith) refl

pub returns-in-33-3 : goal.returns-in-33-3
unfolding all_from class_of tag
returns-in-33-3 c =
    class_run Sign [] 5 60 refl c.args.b (omega arith) (omega arith) refl
