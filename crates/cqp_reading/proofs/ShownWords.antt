-- A reserved word moves a draft as it moves the grammar's machine.
use Rattle.std.proofs.Common.{refl, ap, [], Some}
use Rattle.cqp_reading.specs.DraftLists.{stand}
use Rattle.cqp_syntax.specs.declared.op.Op.TheVariants as op
use Rattle.cqp_syntax.specs.declared.ty.Ty.TheVariants as ty
use Rattle.cqp_grammar.specs.declared.token.Token.TheVariants.{Reserved}
use Rattle.cqp_grammar.specs.declared.token.ReservedWord.{ReservedWord}
use Rattle.cqp_grammar.specs.declared.token.ReservedWord.TheVariants as word
use Rattle.cqp_grammar.specs.Trees.{name, measure}
use Rattle.cqp_grammar.specs.Stacks.{in_expr}
use Rattle.cqp_grammar.specs.ParserStates as at
use Rattle.cqp_grammar.specs.ParserStates.{ParserState}
use Rattle.cqp_reading.specs.declared.awaits.Awaits.TheVariants as awaits
use Rattle.cqp_reading.specs.Closing.{word_type}
use Rattle.cqp_reading.specs.Tokens.{right_read}
use Rattle.cqp_reading.proofs.ShownAtoms.{AgreesAt, unit_agrees, gate_agrees}
use Rattle.cqp_reading.proofs.ShownItems.{item_of, whole, sum_ends, marked_item}
use Rattle.cqp_reading.proofs.ShownQuiet.{is_unread}
use Rattle.cqp_reading.proofs.ShownStarts.{comma_measured, first_noted}

-- each reserved word
pub reserved_agrees : (c : ParserState) (k : ReservedWord) → AgreesAt c k
reserved_agrees (at.measured_comma m xs x es k) word.Measure n =
    ap (λ s. Some (stand (awaits.MeasuredWanted n []) s)) (comma_measured m xs x es k)
reserved_agrees (at.measured_comma m xs x es k) word.Sig n =
    ap (λ s. Some (stand (awaits.SigOpen n) s)) (comma_measured m xs x es k)
reserved_agrees (at.expr_named x k) word.Then n = (marked_item (in_expr k) (name x.at x.name) n).2
reserved_agrees (at.measured_after m xs k) word.Then n = (marked_item k (measure m xs) n).2
reserved_agrees (at.after_sum e k) word.Then n =
    sum_ends right_read k e (Reserved word.Then n) (marked_item (item_of k) (whole k e) n).2
reserved_agrees (at.chan_first k) word.IntType n = ap (λ s. word_type ty.Int (Some s)) (first_noted k)
reserved_agrees (at.chan_first k) word.UnitType n = ap (λ s. word_type ty.Unit (Some s)) (first_noted k)
reserved_agrees (at.chan_first k) word.QbitType n = ap (λ s. word_type ty.Qbit (Some s)) (first_noted k)
reserved_agrees (at.chan_first k) word.OpType n = ap (λ s. Some (stand awaits.OpOpen s)) (first_noted k)
reserved_agrees c word.UnitValue n = unit_agrees c n
reserved_agrees c word.I n = gate_agrees c op.I n
reserved_agrees c word.X n = gate_agrees c op.X n
reserved_agrees c word.Y n = gate_agrees c op.Y n
reserved_agrees c word.Z n = gate_agrees c op.Z n
reserved_agrees c word.H n = gate_agrees c op.H n
reserved_agrees c word.S n = gate_agrees c op.S n
reserved_agrees c word.T n = gate_agrees c op.T n
reserved_agrees c word.CNot n = gate_agrees c op.CNot n
reserved_agrees c word.CZ n = gate_agrees c op.CZ n
reserved_agrees c word.Swap n = gate_agrees c op.Swap n
reserved_agrees c word.Toffoli n = gate_agrees c op.Toffoli n
reserved_agrees c k n = is_unread c (Reserved k n) refl
