-- Each deque takes in the ways of all rows that lead to it.
use Rattle.std.proofs.Common.{◌≡◌, ℕ, suc, ◌+◌, ◌<◌, List, [], ◌∷◌, ◌++◌, All, Vec, Global, length}
use Rattle.std.proofs.Common.{refl, sym, ap, ◌∙◌, arith}
use Rattle.std.specs.List.{sum_by}
use Rattle.std.proofs.lemmas.List.Sums.{sum_by-append}
use Rattle.std.proofs.lemmas.List.Elements.{All-nil, All-cons, All-head, All-tail}
use Rattle.cqp_pool.specs.Parts.{Reached, Owned, deques_of, deques_in, takes_in, zip_in, stolen}
use Rattle.cqp_pool.specs.Parts.{pushed_in, taken_in}
use Rattle.cqp_pool.specs.Apart.{Rows, all_in, stolen_in}
use Rattle.cqp_pool.proofs.Zips.{same_length}

-- owners that take in a row of ways keep their deques
deques_in-zip_in : (os : List Owned) (rs : List Reached) → deques_in (zip_in os rs) ≡ deques_in os
deques_in-zip_in [] rs = refl
deques_in-zip_in (o ∷ os) [] = refl
deques_in-zip_in (o ∷ os) (r ∷ rs) = ap (λ l. o.deque ∷ l) (deques_in-zip_in os rs)

-- owners that take in all rows keep their deques
pub deques_in-all_in : (os : List Owned) (rows : Rows) → deques_in (all_in os rows) ≡ deques_in os
deques_in-all_in os [] = refl
deques_in-all_in os (r ∷ rs) = deques_in-all_in (zip_in os r.items) rs ∙ deques_in-zip_in os r.items

-- one row more is taken in last
pub all_in-push : (os : List Owned) (rows : Rows) (row : Vec Reached Global) → all_in os (rows ++ row ∷ []) ≡ zip_in (all_in os rows) row.items
all_in-push os [] row = refl
all_in-push os (r ∷ rs) row = all_in-push (zip_in os r.items) rs row

-- owners that take in a row of ways, by which nothing is pushed, have pushed the same
pushed_in-zip_in : (os : List Owned) (rs : List Reached) → pushed_in (zip_in os rs) ≡ pushed_in os
pushed_in-zip_in [] rs = refl
pushed_in-zip_in (o ∷ os) [] = refl
pushed_in-zip_in (o ∷ os) (r ∷ rs) = ap (λ l. o.view.pushed ++ l) (pushed_in-zip_in os rs)

-- owners that take in all rows have pushed the same
pub pushed_in-all_in : (os : List Owned) (rows : Rows) → pushed_in (all_in os rows) ≡ pushed_in os
pushed_in-all_in os [] = refl
pushed_in-all_in os (r ∷ rs) = pushed_in-all_in (zip_in os r.items) rs ∙ pushed_in-zip_in os r.items

-- an owner keeps its part
zip_in_some : (os : List Owned) (rs : List Reached) → All (λ (o : Owned). 0 < o.view.parts) os → All (λ (o : Owned). 0 < o.view.parts) (zip_in os rs)
zip_in_some [] rs all = all
zip_in_some (o ∷ os) [] all = all
zip_in_some (o ∷ os) (r ∷ rs) all =
    All-cons (λ (o : Owned). 0 < o.view.parts) (takes_in o r) (zip_in os rs) (let a = All-head (λ (o : Owned). 0 < o.view.parts) o os all in omega arith)
    (zip_in_some os rs (All-tail (λ (o : Owned). 0 < o.view.parts) o os all))

-- an owner that takes in all rows keeps its part
pub all_in_some : (os : List Owned) (rows : Rows) → All (λ (o : Owned). 0 < o.view.parts) os → All (λ (o : Owned). 0 < o.view.parts) (all_in os rows)
all_in_some os [] all = all
all_in_some os (r ∷ rs) all = all_in_some (zip_in os r.items) rs (zip_in_some os r.items all)

-- how many parts an owner doesn't have
abbrev pub Lacks : ℕ → Owned → Type 0
Lacks missing o = o.view.parts + missing ≡ 1024

-- each way in that is taken in is one
zip_in_lacks : (os : List Owned) (rs : List Reached) (missing : ℕ) → length rs ≡ length os → All (Lacks (suc missing)) os → All (Lacks missing) (zip_in os rs)
zip_in_lacks [] rs missing same all = All-nil (Lacks missing)
zip_in_lacks (o ∷ os) [] missing same all = absurd (omega arith)
zip_in_lacks (o ∷ os) (r ∷ rs) missing same all =
    All-cons (Lacks missing) (takes_in o r) (zip_in os rs) (let a = All-head (Lacks (suc missing)) o os all in omega arith)
    (zip_in_lacks os rs missing (omega arith) (All-tail (Lacks (suc missing)) o os all))

-- the ways in of a row lead to these deques, in order
abbrev pub Leads : List Owned → Vec Reached Global → Type 0
Leads os r = deques_of r.items ≡ deques_in os

-- rows still lead to the deques once one of them is taken in
leads_after : (os : List Owned) (rs : List Reached) (rows : Rows) → All (Leads os) rows → All (Leads (zip_in os rs)) rows
leads_after os rs rows all = λ k d lt. all k d lt ∙ sym (deques_in-zip_in os rs)

-- an owner that lacked a part for each row lacks none once all are taken in
pub all_in_lacks : (os : List Owned) (rows : Rows) → All (Leads os) rows → All (Lacks (length rows)) os → All (Lacks 0) (all_in os rows)
all_in_lacks os [] lead all = all
all_in_lacks os (r ∷ rs) lead all =
    let first = zip_in_lacks os r.items (length rs) (same_length os r.items (All-head (Leads os) r rs lead)) all in
    all_in_lacks (zip_in os r.items) rs (leads_after os r.items rs (All-tail (Leads os) r rs lead)) first

-- owners that take in a row have taken what it stole, too
sum_by-taken_in-zip_in : (weight : ℕ → ℕ) (os : List Owned) (rs : List Reached) → length rs ≡ length os
    → sum_by weight (taken_in (zip_in os rs)) ≡ sum_by weight (taken_in os) + sum_by weight (stolen rs)
sum_by-taken_in-zip_in weight [] [] same = refl
sum_by-taken_in-zip_in weight [] (r ∷ rs) same = absurd (omega arith)
sum_by-taken_in-zip_in weight (o ∷ os) [] same = absurd (omega arith)
sum_by-taken_in-zip_in weight (o ∷ os) (r ∷ rs) same =
    let rest = sum_by-taken_in-zip_in weight os rs (omega arith) in
    let a = sum_by-append weight (o.view.taken ++ r.taken) (taken_in (zip_in os rs)) in
    let b = sum_by-append weight o.view.taken r.taken in
    let c = sum_by-append weight o.view.taken (taken_in os) in
    let d = sum_by-append weight r.taken (stolen rs) in
    omega arith

-- owners that take in all rows have taken all that these stole, too
pub sum_by-taken_in-all_in : (weight : ℕ → ℕ) (os : List Owned) (rows : Rows) → All (Leads os) rows
    → sum_by weight (taken_in (all_in os rows)) ≡ sum_by weight (taken_in os) + sum_by weight (stolen_in rows)
sum_by-taken_in-all_in weight os [] lead = omega arith
sum_by-taken_in-all_in weight os (r ∷ rs) lead =
    let first = sum_by-taken_in-zip_in weight os r.items (same_length os r.items (All-head (Leads os) r rs lead)) in
    let rest = sum_by-taken_in-all_in weight (zip_in os r.items) rs (leads_after os r.items rs (All-tail (Leads os) r rs lead)) in
    let a = sum_by-append weight (stolen r.items) (stolen_in rs) in
    omega arith
