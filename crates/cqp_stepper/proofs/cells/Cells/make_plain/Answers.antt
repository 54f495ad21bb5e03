use Rattle.cqp_stepper.proofs.Making.{can_make}
use Rattle.cqp_stepper.proofs.OwnKept.{own_kept, plain_alone, plain_fits, plain_regrouped}
use Rattle.cqp_stepper.proofs.cells.Cells.make_plain.Goals as goal

pub make_parts-requires : goal.make_parts-requires
make_parts-requires c =
    let l = c.args.tables.now in
    let laws = c.make_laws.ensures in
    let k = c.requires.run.1 in
    let d = c.args.deed.now in
    can_make l c.requires.run.0 c.args.self.now k laws.here laws.own laws.room c.checked.ensures.few c.requires.seen c.args.n d 0 _ c.requires.may
    (plain_alone d c.requires.plain) (plain_fits l k.events d c.requires.plain)

pub returns-clause-ok : goal.returns-clause-ok
returns-clause-ok c entries k =
    let l = c.args.tables.now in
    let s = c.args.self.now in
    let t = c.make_parts.new.self in
    let d = c.args.deed.now in
    let may = c.requires.may in
    let told = c.in_ok-make_parts.ensures in
    own_kept l c.make_laws.ensures.own entries s k c.requires.seen c.args.n d 0 _ may (plain_alone d c.requires.plain)
    (plain_fits l k.events d c.requires.plain)
    t (told.made may.part may.there) (plain_regrouped s t d c.requires.plain told.groups.groups told.groups.due k.due)
