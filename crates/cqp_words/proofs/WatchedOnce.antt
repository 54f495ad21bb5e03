-- What is watched: the words and the names of qubits are apart.
use Rattle.std.proofs.Common.{◌≡◌, ℕ, ◌<◌, ◌^◌, ◌==◌, ◌∷◌, length, false, refl, sym, ◌∙◌, ap, subst, arith, codes, bytes_eq, eq-eqb}
use Rattle.std.proofs.lemmas.Fmt.{decimal_injective, length-decimal-le}
use Rattle.cqp_words.specs.declared.rules.Watched.{Watched}
use Rattle.cqp_words.specs.declared.rules.Watched.TheVariants as watched
use Rattle.cqp_words.specs.Items.{Text}
use Rattle.cqp_words.specs.Requests.{IsNumber, IsWatched}
use Rattle.cqp_words.proofs.Bools.{fails, same_bytes}

-- no text is two that the test of equality tells apart
pub one_text_only : (s u t : Text) → bytes_eq s u ≡ false → t ≡ s → t ≡ u → ⊥
one_text_only s u t other a b = fails (sym other ∙ ap (bytes_eq s) (sym b ∙ a) ∙ same_bytes s)

-- no text begins with two different bytes
first_only : (x y : ℕ) (xs ys t : Text) → (x == y) ≡ false → t ≡ x ∷ xs → t ≡ y ∷ ys → ⊥
first_only x y xs ys t other a b =
    let same : x ≡ y = cc in
    fails (sym other ∙ ap (λ z. x == z) (sym same) ∙ eq-eqb x x refl)

-- a text is one number at most
pub number_once : (t : Text) (least most m n : ℕ) → most < 2 ^ 64 → IsNumber t least most m → IsNumber t least most n → m ≡ n
number_once t least most m n small a b =
    decimal_injective m n (omega (arith, a.at_most)) (omega (arith, b.at_most)) (sym a.text_is ∙ b.text_is)

-- `bit` is no number of a qubit
not_bit : (t digits : Text) (q : ℕ) → t ≡ 113 ∷ digits → IsNumber digits 0 11 q → t ≡ codes "qbit" → ⊥
not_bit t digits q a i b =
    let rest : digits ≡ codes "bit" = tail digits (codes "bit") t a b in
    let long : length digits ≡ 3 = ap length rest in
    let short = length-decimal-le 2 q (omega (arith, i.at_most)) in
    let same = ap length i.text_is in
    omega (arith, long, short, same)
  where
    tail : (xs ys t : Text) → t ≡ 113 ∷ xs → t ≡ 113 ∷ ys → xs ≡ ys
    tail xs ys t a b = cc

-- a text says one thing that is watched at most
pub watched_once : (t : Text) (w v : Watched) → IsWatched t w → IsWatched t v → w ≡ v
watched_once t watched.Qbit watched.Qbit a b = refl
watched_once t watched.Qbit watched.New a b = absurd (one_text_only (codes "qbit") (codes "new") t refl a b)
watched_once t watched.Qbit watched.Act a b = absurd (one_text_only (codes "qbit") (codes "act") t refl a b)
watched_once t watched.Qbit watched.Add a b = absurd (one_text_only (codes "qbit") (codes "add") t refl a b)
watched_once t watched.Qbit watched.Pick a b = absurd (one_text_only (codes "qbit") (codes "pick") t refl a b)
watched_once t watched.Qbit watched.Gate a b = absurd (one_text_only (codes "qbit") (codes "gate") t refl a b)
watched_once t watched.Qbit watched.Measure a b = absurd (one_text_only (codes "qbit") (codes "measure") t refl a b)
watched_once t watched.Qbit watched.Com a b = absurd (one_text_only (codes "qbit") (codes "com") t refl a b)
watched_once t watched.Qbit watched.If a b = absurd (one_text_only (codes "qbit") (codes "if") t refl a b)
watched_once t watched.Qbit (watched.On q) a b = absurd (not_bit t b.0 q b.1 b.2 a)
watched_once t watched.New watched.Qbit a b = absurd (one_text_only (codes "new") (codes "qbit") t refl a b)
watched_once t watched.New watched.New a b = refl
watched_once t watched.New watched.Act a b = absurd (one_text_only (codes "new") (codes "act") t refl a b)
watched_once t watched.New watched.Add a b = absurd (one_text_only (codes "new") (codes "add") t refl a b)
watched_once t watched.New watched.Pick a b = absurd (one_text_only (codes "new") (codes "pick") t refl a b)
watched_once t watched.New watched.Gate a b = absurd (one_text_only (codes "new") (codes "gate") t refl a b)
watched_once t watched.New watched.Measure a b = absurd (one_text_only (codes "new") (codes "measure") t refl a b)
watched_once t watched.New watched.Com a b = absurd (one_text_only (codes "new") (codes "com") t refl a b)
watched_once t watched.New watched.If a b = absurd (one_text_only (codes "new") (codes "if") t refl a b)
watched_once t watched.New (watched.On q) a b = absurd (first_only 110 113 _ _ t refl a b.1)
watched_once t watched.Act watched.Qbit a b = absurd (one_text_only (codes "act") (codes "qbit") t refl a b)
watched_once t watched.Act watched.New a b = absurd (one_text_only (codes "act") (codes "new") t refl a b)
watched_once t watched.Act watched.Act a b = refl
watched_once t watched.Act watched.Add a b = absurd (one_text_only (codes "act") (codes "add") t refl a b)
watched_once t watched.Act watched.Pick a b = absurd (one_text_only (codes "act") (codes "pick") t refl a b)
watched_once t watched.Act watched.Gate a b = absurd (one_text_only (codes "act") (codes "gate") t refl a b)
watched_once t watched.Act watched.Measure a b = absurd (one_text_only (codes "act") (codes "measure") t refl a b)
watched_once t watched.Act watched.Com a b = absurd (one_text_only (codes "act") (codes "com") t refl a b)
watched_once t watched.Act watched.If a b = absurd (one_text_only (codes "act") (codes "if") t refl a b)
watched_once t watched.Act (watched.On q) a b = absurd (first_only 97 113 _ _ t refl a b.1)
watched_once t watched.Add watched.Qbit a b = absurd (one_text_only (codes "add") (codes "qbit") t refl a b)
watched_once t watched.Add watched.New a b = absurd (one_text_only (codes "add") (codes "new") t refl a b)
watched_once t watched.Add watched.Act a b = absurd (one_text_only (codes "add") (codes "act") t refl a b)
watched_once t watched.Add watched.Add a b = refl
watched_once t watched.Add watched.Pick a b = absurd (one_text_only (codes "add") (codes "pick") t refl a b)
watched_once t watched.Add watched.Gate a b = absurd (one_text_only (codes "add") (codes "gate") t refl a b)
watched_once t watched.Add watched.Measure a b = absurd (one_text_only (codes "add") (codes "measure") t refl a b)
watched_once t watched.Add watched.Com a b = absurd (one_text_only (codes "add") (codes "com") t refl a b)
watched_once t watched.Add watched.If a b = absurd (one_text_only (codes "add") (codes "if") t refl a b)
watched_once t watched.Add (watched.On q) a b = absurd (first_only 97 113 _ _ t refl a b.1)
watched_once t watched.Pick watched.Qbit a b = absurd (one_text_only (codes "pick") (codes "qbit") t refl a b)
watched_once t watched.Pick watched.New a b = absurd (one_text_only (codes "pick") (codes "new") t refl a b)
watched_once t watched.Pick watched.Act a b = absurd (one_text_only (codes "pick") (codes "act") t refl a b)
watched_once t watched.Pick watched.Add a b = absurd (one_text_only (codes "pick") (codes "add") t refl a b)
watched_once t watched.Pick watched.Pick a b = refl
watched_once t watched.Pick watched.Gate a b = absurd (one_text_only (codes "pick") (codes "gate") t refl a b)
watched_once t watched.Pick watched.Measure a b = absurd (one_text_only (codes "pick") (codes "measure") t refl a b)
watched_once t watched.Pick watched.Com a b = absurd (one_text_only (codes "pick") (codes "com") t refl a b)
watched_once t watched.Pick watched.If a b = absurd (one_text_only (codes "pick") (codes "if") t refl a b)
watched_once t watched.Pick (watched.On q) a b = absurd (first_only 112 113 _ _ t refl a b.1)
watched_once t watched.Gate watched.Qbit a b = absurd (one_text_only (codes "gate") (codes "qbit") t refl a b)
watched_once t watched.Gate watched.New a b = absurd (one_text_only (codes "gate") (codes "new") t refl a b)
watched_once t watched.Gate watched.Act a b = absurd (one_text_only (codes "gate") (codes "act") t refl a b)
watched_once t watched.Gate watched.Add a b = absurd (one_text_only (codes "gate") (codes "add") t refl a b)
watched_once t watched.Gate watched.Pick a b = absurd (one_text_only (codes "gate") (codes "pick") t refl a b)
watched_once t watched.Gate watched.Gate a b = refl
watched_once t watched.Gate watched.Measure a b = absurd (one_text_only (codes "gate") (codes "measure") t refl a b)
watched_once t watched.Gate watched.Com a b = absurd (one_text_only (codes "gate") (codes "com") t refl a b)
watched_once t watched.Gate watched.If a b = absurd (one_text_only (codes "gate") (codes "if") t refl a b)
watched_once t watched.Gate (watched.On q) a b = absurd (first_only 103 113 _ _ t refl a b.1)
watched_once t watched.Measure watched.Qbit a b = absurd (one_text_only (codes "measure") (codes "qbit") t refl a b)
watched_once t watched.Measure watched.New a b = absurd (one_text_only (codes "measure") (codes "new") t refl a b)
watched_once t watched.Measure watched.Act a b = absurd (one_text_only (codes "measure") (codes "act") t refl a b)
watched_once t watched.Measure watched.Add a b = absurd (one_text_only (codes "measure") (codes "add") t refl a b)
watched_once t watched.Measure watched.Pick a b = absurd (one_text_only (codes "measure") (codes "pick") t refl a b)
watched_once t watched.Measure watched.Gate a b = absurd (one_text_only (codes "measure") (codes "gate") t refl a b)
watched_once t watched.Measure watched.Measure a b = refl
watched_once t watched.Measure watched.Com a b = absurd (one_text_only (codes "measure") (codes "com") t refl a b)
watched_once t watched.Measure watched.If a b = absurd (one_text_only (codes "measure") (codes "if") t refl a b)
watched_once t watched.Measure (watched.On q) a b = absurd (first_only 109 113 _ _ t refl a b.1)
watched_once t watched.Com watched.Qbit a b = absurd (one_text_only (codes "com") (codes "qbit") t refl a b)
watched_once t watched.Com watched.New a b = absurd (one_text_only (codes "com") (codes "new") t refl a b)
watched_once t watched.Com watched.Act a b = absurd (one_text_only (codes "com") (codes "act") t refl a b)
watched_once t watched.Com watched.Add a b = absurd (one_text_only (codes "com") (codes "add") t refl a b)
watched_once t watched.Com watched.Pick a b = absurd (one_text_only (codes "com") (codes "pick") t refl a b)
watched_once t watched.Com watched.Gate a b = absurd (one_text_only (codes "com") (codes "gate") t refl a b)
watched_once t watched.Com watched.Measure a b = absurd (one_text_only (codes "com") (codes "measure") t refl a b)
watched_once t watched.Com watched.Com a b = refl
watched_once t watched.Com watched.If a b = absurd (one_text_only (codes "com") (codes "if") t refl a b)
watched_once t watched.Com (watched.On q) a b = absurd (first_only 99 113 _ _ t refl a b.1)
watched_once t watched.If watched.Qbit a b = absurd (one_text_only (codes "if") (codes "qbit") t refl a b)
watched_once t watched.If watched.New a b = absurd (one_text_only (codes "if") (codes "new") t refl a b)
watched_once t watched.If watched.Act a b = absurd (one_text_only (codes "if") (codes "act") t refl a b)
watched_once t watched.If watched.Add a b = absurd (one_text_only (codes "if") (codes "add") t refl a b)
watched_once t watched.If watched.Pick a b = absurd (one_text_only (codes "if") (codes "pick") t refl a b)
watched_once t watched.If watched.Gate a b = absurd (one_text_only (codes "if") (codes "gate") t refl a b)
watched_once t watched.If watched.Measure a b = absurd (one_text_only (codes "if") (codes "measure") t refl a b)
watched_once t watched.If watched.Com a b = absurd (one_text_only (codes "if") (codes "com") t refl a b)
watched_once t watched.If watched.If a b = refl
watched_once t watched.If (watched.On q) a b = absurd (first_only 105 113 _ _ t refl a b.1)
watched_once t (watched.On q) watched.Qbit a b = absurd (not_bit t a.0 q a.1 a.2 b)
watched_once t (watched.On q) watched.New a b = absurd (first_only 110 113 _ _ t refl b a.1)
watched_once t (watched.On q) watched.Act a b = absurd (first_only 97 113 _ _ t refl b a.1)
watched_once t (watched.On q) watched.Add a b = absurd (first_only 97 113 _ _ t refl b a.1)
watched_once t (watched.On q) watched.Pick a b = absurd (first_only 112 113 _ _ t refl b a.1)
watched_once t (watched.On q) watched.Gate a b = absurd (first_only 103 113 _ _ t refl b a.1)
watched_once t (watched.On q) watched.Measure a b = absurd (first_only 109 113 _ _ t refl b a.1)
watched_once t (watched.On q) watched.Com a b = absurd (first_only 99 113 _ _ t refl b a.1)
watched_once t (watched.On q) watched.If a b = absurd (first_only 105 113 _ _ t refl b a.1)
watched_once t (watched.On p) (watched.On q) a b =
    let same = tail a.0 b.0 t a.1 b.1 in
    ap (λ n. watched.On n) (number_once b.0 0 11 p q (omega arith) (subst (λ d. IsNumber d 0 11 p) same a.2) b.2)
  where
    tail : (xs ys t : Text) → t ≡ 113 ∷ xs → t ≡ 113 ∷ ys → xs ≡ ys
    tail xs ys t a b = cc
