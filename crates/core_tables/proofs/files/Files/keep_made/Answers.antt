use Rattle.std.proofs.Common.{◌≡◌, List, ℕ, ap, refl, subst}
use Rattle.std.specs.Prelude.{slice_get}
use Rattle.std.specs.Vec.{with_items}
use Rattle.run_plan.specs.declared.plan.Branch.TheVariants.{Local, Remote}
use Rattle.core_tables.specs.Slots.{Facts, Granted, rows_of}
use Rattle.core_tables.proofs.Filled.{same_content, whole_rows}
use Rattle.core_tables.proofs.files.Files.keep_made.Goals as goal

pub returns : goal.returns
returns c =
    let after : Facts = record {
      made = (with_items c.self.inside.made c.fill_made.new.rows).items;
      local = c.self.inside.local.items;
      remote = c.self.inside.remote.items;
    } in
    subst (λ (f : Facts). Granted c.args.action c.args.files.now f after) c.self.view_is (record {
      made = same_content c.args.action _ _ _ _ (λ o. ap
          (λ (fs : List (List ℕ)). slice_get fs o) c.as_slice.ensures)
          (whole_rows c.args.action _ c.self.inside.made _ c.fill_made.new.rows
          c.as_mut_slice.ensures.value c.as_mut_slice.ensures.len c.fill_made.ensures);
      answers = λ b. elim b as (λ b. rows_of b after ≡ rows_of b
          (record {
            made = c.self.inside.made.items;
            local = c.self.inside.local.items;
            remote = c.self.inside.remote.items;
          })) [ Local ↦ refl | Remote ↦ refl ];
    })
