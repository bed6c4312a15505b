use Rattle.std.proofs.Common.{inl, inr, sym, ap, ◌∙◌}
use Rattle.lane_word.specs.Word.{lanes}
use Rattle.lane_word.proofs.ToldLaws.{constant_size, binary_size}
use Rattle.predicate_semantics.specs.Tested.{passed}
use Rattle.riscv32imc_predicate.proofs.Execution.{nothing_is, literal_is, compute_is, immediate_is, jump_is, jump_to_is, branch_is, load_is, store_is}
use Rattle.riscv32imc_predicate.proofs.decide.execute.Goals as goal

pub returns-in-Nothing : goal.returns-in-Nothing
returns-in-Nothing c = rw c.in-Nothing.is (λ d s g left right o. sym (nothing_is g _), tt)

pub returns-in-Literal : goal.returns-in-Literal
returns-in-Literal c = rw c.in-Literal.is (λ d s g left right o. sym (literal_is g _ _ _), tt)

pub returns-in-Compute : goal.returns-in-Compute
returns-in-Compute c =
    elim c.in-Compute.is [
      | inl h ↦ rw h.3 (
        λ d s g left right o. ap passed (c.compute.ensures.0 _ _ _ (binary_size _ left right o.left_size o.right_size) o.told) ∙ sym (compute_is g _ o),
        c.compute.ensures.1,
      )
      | inr h ↦ rw h.3 (
        λ d s g left right o.
            ap passed (c.compute.ensures.0 _ _ _ (binary_size _ left _ o.left_size (constant_size lanes _)) o.told) ∙ sym (immediate_is g _ o),
        c.compute.ensures.1,
      )
    ]

pub returns-in-Jump : goal.returns-in-Jump
returns-in-Jump c = rw c.in-Jump.is (λ d s g left right o. sym (jump_is g _ _ _), tt)

pub returns-in-JumpTo : goal.returns-in-JumpTo
returns-in-JumpTo c = rw c.in-JumpTo.is (λ d s g left right o. c.jump_to.ensures.0 _ _ _ ∙ sym (jump_to_is g _ o), c.jump_to.ensures.1)

pub returns-in-Branch : goal.returns-in-Branch
returns-in-Branch c = rw c.in-Branch.is (λ d s g left right o. c.branch-tested.ensures.0 _ _ _ ∙ sym (branch_is g _ o), c.branch-tested.ensures.1)

pub returns-in-Load : goal.returns-in-Load
returns-in-Load c = rw c.in-Load.is (λ d s g left right o. c.load.ensures.0 _ _ ∙ sym (load_is g _ o), c.load.ensures.1)

pub returns-in-Store : goal.returns-in-Store
returns-in-Store c = rw c.in-Store.is (λ d s g left right o. c.store.ensures.0 _ _ right ∙ sym (store_is g _ o), c.store.ensures.1)
