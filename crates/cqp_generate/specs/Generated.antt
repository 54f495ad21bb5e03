-- The program that is made from a number n: six pairs of parts that pass a qubit to and fro n
-- times. Each line is ended by a line feed.
use Rattle.std.specs.Prelude.{ℕ, suc, ◌+◌, ◌*◌, List, [], ◌∷◌, ◌++◌, codes, map, flat_map}
use Rattle.std.specs.Fmt.{decimal}
use Rattle.std.specs.List.{concat, range_with_len, join_with_byte}

-- the definition of a pair's left part with no round to go
abbrev pub last_left : List ℕ
last_left = codes "def L0(c:^[Qbit],d:^[Qbit],a:Qbit)={measure a}.0;\n"

-- the definition of a pair's right part with no round to go
abbrev pub last_right : List ℕ
last_right = codes "def R0(c:^[Qbit],d:^[Qbit],b:Qbit)={measure b}.0;\n"

-- the definition of the left part with k rounds to go, which goes on with j
abbrev pub left : ℕ → ℕ → List ℕ
left k j =
    concat (codes "def L" ∷ decimal k
    ∷ codes "(c:^[Qbit],d:^[Qbit],a:Qbit)={a *= T}.c![a].d?[e:Qbit].L"
    ∷ decimal j ∷ codes "(c,d,e);\n" ∷ [])

-- the definition of the right part with k rounds to go, which goes on with j
abbrev pub right : ℕ → ℕ → List ℕ
right k j =
    concat (codes "def R" ∷ decimal k
    ∷ codes "(c:^[Qbit],d:^[Qbit],b:Qbit)=c?[a:Qbit].{a,b *= CNot}.{b *= S}.d![a].R"
    ∷ decimal j ∷ codes "(c,d,b);\n" ∷ [])

-- the two definitions for j + 1 rounds, which go on with j
abbrev pub round : ℕ → List ℕ
round j = left (suc j) j ++ right (suc j) j

-- the binder of a qubit
abbrev pub qubit : ℕ → List ℕ
qubit q = concat (codes "(qbit q" ∷ decimal q ∷ codes ")" ∷ [])

-- the binders of a pair's two channels
abbrev pub channels : ℕ → List ℕ
channels i =
    concat (codes "(new c" ∷ decimal i ∷ codes ":^[Qbit])(new d" ∷ decimal i ∷ codes ":^[Qbit])"
    ∷ [])

-- the H on a qubit
abbrev pub spread : ℕ → List ℕ
spread q = concat (codes "{q" ∷ decimal q ∷ codes " *= H}." ∷ [])

-- the call of a part with n rounds to go, on the channels of pair i and on qubit q
abbrev pub call : List ℕ → ℕ → ℕ → ℕ → List ℕ
call name n i q =
    concat (name ∷ decimal n ∷ codes "(c" ∷ decimal i ∷ codes ",d" ∷ decimal i ∷ codes ",q"
    ∷ decimal q ∷ codes ")" ∷ [])

-- pair i with n rounds to go, on its two qubits
abbrev pub pair : ℕ → ℕ → List ℕ
pair n i = call (codes "L") n i (2 * i) ++ call (codes "|R") n i (2 * i + 1)

-- the definitions for each number of rounds from 0 to n
abbrev pub definitions : ℕ → List ℕ
definitions n = last_left ++ last_right ++ flat_map round (range_with_len 0 n)

-- the binders of twelve qubits, those of six pairs of channels, and an H on each qubit
abbrev pub opening : List ℕ
opening =
    flat_map qubit (range_with_len 0 12) ++ codes "\n"
    ++ (flat_map channels (range_with_len 0 6) ++ codes "\n")
    ++ (flat_map spread (range_with_len 0 12) ++ codes "\n")

-- the six pairs with `|`, which is 124, between them, in parentheses
abbrev pub pairs : ℕ → List ℕ
pairs n =
    codes "(" ++ join_with_byte 124 (map (pair n) (range_with_len 0 6)) ++ codes ")\n"

-- the program's text
abbrev pub generated : ℕ → List ℕ
generated n = definitions n ++ opening ++ pairs n
