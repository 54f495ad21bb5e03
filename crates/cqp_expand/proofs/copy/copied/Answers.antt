use Rattle.std.proofs.Common.{◌<◌, ◌∙◌, ap, subst, sym, arith, refl}
use Rattle.cqp_expand.specs.Copying.{Copying, shown, begun, with_member}
use Rattle.cqp_expand.proofs.CopyLoop.{IsGoing, going_first, top_within, going_can, going_step, going_end, going_last}
use Rattle.cqp_expand.proofs.CopyTurns.{turns_step}
use Rattle.cqp_expand.proofs.CopySteps.{element, some_at}
use Rattle.cqp_expand.proofs.Weights.{turns_left}
use Rattle.cqp_expand.proofs.copy.copied.Goals as goal

pub loop-instance-init : goal.loop-instance-init
loop-instance-init c = λ t types s.
    subst (IsGoing t types c.args.outlines.now) (sym (c.in_ok-begin.ensures
    ∙ ap (begun c.args.def 0 0) c.in_ok-copier.ensures)) (going_first t types c.args.outlines.now s c.args.def c.requires.last)

pub bounds-outlines-instance : goal.bounds-outlines-instance
bounds-outlines-instance c =
    let k = c.requires.known in
    top_within k.0 k.1 c.args.outlines.now k.2 (shown c.loop-instance.copier) _ _ (c.loop-instance.invariant k.0 k.1 k.2) c.in-Some.ensures.items

pub offset_bounds-outlines-instance : goal.offset_bounds-outlines-instance
offset_bounds-outlines-instance c =
    let k = c.requires.known in
    let within = top_within k.0 k.1 c.args.outlines.now k.2 (shown c.loop-instance.copier) _ _
    (c.loop-instance.invariant k.0 k.1 k.2) c.in-Some.ensures.items in
    omega (arith, within)

pub member-requires-clause-can : goal.member-requires-clause-can
member-requires-clause-can c =
    let k = c.requires.known in
    let going = c.loop-instance.invariant k.0 k.1 k.2 in
    let within = top_within k.0 k.1 c.args.outlines.now k.2 (shown c.loop-instance.copier) _ _ going c.in-Some.ensures.items in
    let here = element c.args.outlines.now c.in-Some.instance.def _ _ within c.index-outlines-instance.is refl in
    λ x h. rw c.in_ok-resume.ensures (going_can k.0 k.1 c.args.outlines.now k.2 (shown c.loop-instance.copier) _ _ _ going c.in-Some.ensures.items here x h)

pub loop-instance-preserved : goal.loop-instance-preserved
loop-instance-preserved c = λ t types s.
    let going = c.loop-instance.invariant t types s in
    let within = top_within t types c.args.outlines.now s (shown c.loop-instance.copier) _ _ going c.in-Some.ensures.items in
    let here = element c.args.outlines.now c.in-Some.instance.def _ _ within c.index-outlines-instance.is refl in
    going_end t types c.args.outlines.now s (shown c.loop-instance.copier) c.pop.new.self.items c.in-Some.instance c.index-outlines-instance.result going
    c.in-Some.ensures.items here
    (omega (arith, c.if-instance-len.false, c.len.ensures, c.index-outlines-instance.result.members.ok.0))

pub loop-instance-smaller-in-Continue-branch-4 : goal.loop-instance-smaller-in-Continue-branch-4
loop-instance-smaller-in-Continue-branch-4 c =
    let k = c.requires.known in
    let outlines = c.args.outlines.now in
    let d = c.index-outlines-instance.result in
    let going = c.loop-instance.invariant k.0 k.1 k.2 in
    let within = top_within k.0 k.1 outlines k.2 (shown c.loop-instance.copier) _ _ going c.in-Some.ensures.items in
    let here = element outlines c.in-Some.instance.def _ _ within c.index-outlines-instance.is refl in
    let member = some_at d.members.items c.in-Some.instance.next (omega (arith, c.if-instance-len.true, c.len.ensures, d.members.ok.0)) in
    let after = c.in_ok-member.ensures member.0 member.1 ∙ ap (with_member d c.in-Some.instance member.0) c.in_ok-resume.ensures in
    let less = turns_step k.0 k.1 outlines k.2 (shown c.loop-instance.copier) _ _ d member.0 here member.1 going c.in-Some.ensures.items in
    let now = ap (λ (s : Copying). turns_left outlines s.instances) after in
    let before = ap (turns_left outlines) c.in-Some.ensures.items in
    let fewer : turns_left outlines c.member.new.self.instances.items
    < turns_left outlines c.loop-instance.copier.instances.items = omega (arith, less, now, before) in
    fewer

pub loop-instance-preserved-in-Continue-branch-4 : goal.loop-instance-preserved-in-Continue-branch-4
loop-instance-preserved-in-Continue-branch-4 c = λ t types s.
    let outlines = c.args.outlines.now in
    let d = c.index-outlines-instance.result in
    let going = c.loop-instance.invariant t types s in
    let within = top_within t types outlines s (shown c.loop-instance.copier) _ _ going c.in-Some.ensures.items in
    let here = element outlines c.in-Some.instance.def _ _ within c.index-outlines-instance.is refl in
    let member = some_at d.members.items c.in-Some.instance.next (omega (arith, c.if-instance-len.true, c.len.ensures, d.members.ok.0)) in
    let after = c.in_ok-member.ensures member.0 member.1 ∙ ap (with_member d c.in-Some.instance member.0) c.in_ok-resume.ensures in
    subst (IsGoing t types outlines) (sym after) (going_step t types outlines s
    (shown c.loop-instance.copier) _ _ d going c.in-Some.ensures.items here member.0 member.1)

pub returns : goal.returns
returns c = λ t types s.
    going_last t types c.args.outlines.now s (shown c.loop-instance.copier) (c.loop-instance.invariant t types s) (omega
    (arith, c.in_default.ensures.cases.0, c.loop-instance.copier.instances.ok.0))
