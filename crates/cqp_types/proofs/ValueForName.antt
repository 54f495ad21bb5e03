-- A value of the type of a binder may take the place of its name.
use Rattle.std.proofs.Common.{◌≡◌, List, [], ◌∷◌, false, ◌⊎◌, inl, inr, sym, subst}
use Rattle.cqp_syntax.specs.declared.val.Val.{Val}
use Rattle.cqp_syntax.specs.TypeTrees.{TypeTree, qbit_type}
use Rattle.cqp_syntax.specs.Trees.{Slot, named, valued, Expr, Binder, Process}
use Rattle.cqp_syntax.specs.Binders.{binders_of}
use Rattle.cqp_syntax.specs.Free.{same_slot, expr_slots, free_slots}
use Rattle.cqp_syntax.specs.Substitution.{expr_with, with_value}
use Rattle.cqp_types.specs.Contexts.{Context, Has, bound_entry, binding}
use Rattle.cqp_types.specs.Derivations.{HasType, Derives}
use Rattle.cqp_syntax.proofs.Slots.{slot_other}
use Rattle.cqp_types.proofs.ContextLaws.{one_type, has_name, has_below}
use Rattle.cqp_types.specs.Laws.{IsWithin, Unbound, IsValueFor}
use Rattle.cqp_types.proofs.Puts.{put, put_cases}
use Rattle.cqp_types.proofs.SubstitutedExprs.{Suits, expr_substituted}
use Rattle.cqp_types.proofs.Substituted.{process_substituted}

module _ (g h : Context) (b : Binder) (v : Val) (more : IsWithin g h) where
  -- a value of the binder's type suits its name
  suits : (ss : List Slot) → IsValueFor h b v ss → Suits b.name v (binding (b ∷ []) g) h ss
  suits ss value = record {
    keeps = λ s t i is. go s t is (put_cases b.name v s);
    apart = λ is. value.fresh (one_type (binding (b ∷ []) g) (named b.name) b.ty qbit_type (has_name b g) is);
  }
    where
      go : (s : Slot) (t : TypeTree) → Has (binding (b ∷ []) g) s t
          → ((s ≡ named b.name) × (put b.name v s ≡ valued v)) ⊎ ((same_slot s (named b.name) ≡ false) × (put b.name v s ≡ s)) → Has h (put b.name v s) t
      go s t is (inl c) =
          let at_name = subst (λ r. Has (binding (b ∷ []) g) r t) c.0 is in
          let same = one_type (binding (b ∷ []) g) (named b.name) b.ty t (has_name b g) at_name in
          subst (λ r. Has h r t) (sym c.1) (subst (λ u. Has h (valued v) u) same value.typed)
      go s t is (inr c) =
          subst (λ r. Has h r t) (sym c.1) (more s t (has_below (bound_entry b) g s t (slot_other s (named b.name) c.0) is))

  -- an expression below a binder, with a value of the binder's type for its name
  pub expr_value : {e : Expr} {t : TypeTree} → IsValueFor h b v (expr_slots e)
      → HasType (binding (b ∷ []) g) e t → HasType h (expr_with b.name v e) t
  expr_value {e = e} value d = expr_substituted b.name v (binding (b ∷ []) g) h (suits (expr_slots e) value) d

  -- and a process that does not bind the name again
  pub value_for_name : {p : Process} → IsValueFor h b v (free_slots p) → Unbound b.name (binders_of p)
      → Derives (binding (b ∷ []) g) p → Derives h (with_value b.name v p)
  value_for_name {p = p} value unbound d = process_substituted b.name v (binding (b ∷ []) g) h unbound (suits (free_slots p) value) d
