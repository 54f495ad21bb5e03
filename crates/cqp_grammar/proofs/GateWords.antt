-- Gates and their reserved words give one another.
use Rattle.std.proofs.Common.{◌≡◌, refl, ap, Some, None}
use Rattle.cqp_syntax.specs.declared.op.Op.{Op}
use Rattle.cqp_syntax.specs.declared.op.Op.TheVariants as op
use Rattle.cqp_grammar.specs.declared.token.ReservedWord.{ReservedWord}
use Rattle.cqp_grammar.specs.declared.token.ReservedWord.TheVariants as word
use Rattle.cqp_grammar.specs.Grammar.{gate_of_word, gate_word}

-- a gate's word is the word of that gate
pub word_back : (u : Op) → gate_of_word (gate_word u) ≡ Some u
word_back op.I = refl
word_back op.X = refl
word_back op.Y = refl
word_back op.Z = refl
word_back op.H = refl
word_back op.S = refl
word_back op.T = refl
word_back op.CNot = refl
word_back op.CZ = refl
word_back op.Swap = refl
word_back op.Toffoli = refl

-- something is not nothing
none_some : (u : Op) → None ≡ Some u → ⊥
none_some u h = cc

-- what is there twice is the same
some_same : (o u : Op) → Some o ≡ Some u → o ≡ u
some_same o u h = cc

-- a word that is that of a gate is the gate's word
pub word_only : (k : ReservedWord) (u : Op) → gate_of_word k ≡ Some u → k ≡ gate_word u
word_only word.I u h = ap gate_word (some_same op.I u h)
word_only word.X u h = ap gate_word (some_same op.X u h)
word_only word.Y u h = ap gate_word (some_same op.Y u h)
word_only word.Z u h = ap gate_word (some_same op.Z u h)
word_only word.H u h = ap gate_word (some_same op.H u h)
word_only word.S u h = ap gate_word (some_same op.S u h)
word_only word.T u h = ap gate_word (some_same op.T u h)
word_only word.CNot u h = ap gate_word (some_same op.CNot u h)
word_only word.CZ u h = ap gate_word (some_same op.CZ u h)
word_only word.Swap u h = ap gate_word (some_same op.Swap u h)
word_only word.Toffoli u h = ap gate_word (some_same op.Toffoli u h)
word_only word.Def u h = absurd (none_some u h)
word_only word.New u h = absurd (none_some u h)
word_only word.MakeQbit u h = absurd (none_some u h)
word_only word.Measure u h = absurd (none_some u h)
word_only word.Sig u h = absurd (none_some u h)
word_only word.If u h = absurd (none_some u h)
word_only word.Then u h = absurd (none_some u h)
word_only word.Else u h = absurd (none_some u h)
word_only word.UnitValue u h = absurd (none_some u h)
word_only word.IntType u h = absurd (none_some u h)
word_only word.UnitType u h = absurd (none_some u h)
word_only word.QbitType u h = absurd (none_some u h)
word_only word.OpType u h = absurd (none_some u h)
