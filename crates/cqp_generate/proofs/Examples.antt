-- Worked cases of the pieces.
use Rattle.std.proofs.Common.{◌≡◌, ◌++◌, refl}
use Rattle.std.specs.Prelude.{codes}
use Rattle.std.specs.Fmt.{digits}
use Rattle.cqp_generate.specs.Generated.{left, pair, qubit}

-- the last qubit
last_qubit : qubit 11 ≡ codes "(qbit q11)"
unfolding digits
last_qubit = refl

-- ten rounds go on with nine
ten_rounds : left 10 9
    ≡ codes "def L10(c:^[Qbit],d:^[Qbit],a:Qbit)={a *= T}." ++ codes "c![a].d?[e:Qbit].L9(c,d,e);\n"
unfolding digits
ten_rounds = refl

-- the last pair
last_pair : pair 100 5 ≡ codes "L100(c5,d5,q10)|R100(c5,d5,q11)"
unfolding digits
last_pair = refl
