use Rattle.std.proofs.Common.{◌≡◌, List, ℕ, Result, Ok, Err, IfErr, codes}
use Rattle.cqp_words.specs.declared.given.WordsEnd.{WordsEnd}
use Rattle.cqp_words.specs.declared.given.WordsEnd.TheVariants.{Usage}
use Rattle.cqp_words.specs.declared.rules.Watched.{Watched}
use Rattle.cqp_words.specs.declared.rules.Watched.TheVariants as watched
use Rattle.cqp_words.specs.Requests.{IsWatched}
use Rattle.cqp_words.proofs.rules.item.Goals as goal

-- a text that is none of the nine words and no qubit is nothing that is watched
no_other : (r : Result Watched WordsEnd) (t : List ℕ) → IfErr r (λ e. e ≡ Usage → (q : ℕ) → IsWatched t (watched.On q) → ⊥)
    → (t ≡ codes "qbit" → ⊥) → (t ≡ codes "new" → ⊥) → (t ≡ codes "act" → ⊥) → (t ≡ codes "add" → ⊥) → (t ≡ codes "pick" → ⊥)
    → (t ≡ codes "gate" → ⊥) → (t ≡ codes "measure" → ⊥) → (t ≡ codes "com" → ⊥) → (t ≡ codes "if" → ⊥)
    → IfErr r (λ e. e ≡ Usage → (w : Watched) → IsWatched t w → ⊥)
no_other (Ok w) t qubits a b c d e f g h i = tt
no_other (Err end) t qubits a b c d e f g h i = λ u w. go w u
  where
    go : (w : Watched) → end ≡ Usage → IsWatched t w → ⊥
    go watched.Qbit u is = a is
    go watched.New u is = b is
    go watched.Act u is = c is
    go watched.Add u is = d is
    go watched.Pick u is = e is
    go watched.Gate u is = f is
    go watched.Measure u is = g is
    go watched.Com u is = h is
    go watched.If u is = i is
    go (watched.On q) u is = qubits u q is

pub returns-in_default-clause-usage : goal.returns-in_default-clause-usage
returns-in_default-clause-usage c =
    let d = c.in_default in
    no_other c.qubit.result c.args.text.now c.qubit.ensures.usage d.not-qbit d.not-new d.not-act d.not-add d.not-pick d.not-gate d.not-measure
    d.not-com d.not-if
