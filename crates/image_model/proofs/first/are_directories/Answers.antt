use Rattle.std.proofs.Common.{◌&&◌, sym, ap, ◌∙◌}
use Rattle.image_model.specs.Files.{is_dir_at}
use Rattle.image_model.specs.Reading.{table_in}
use Rattle.image_model.proofs.first.are_directories.Goals as goal

pub returns-then-is_dir_at : goal.returns-then-is_dir_at
returns-then-is_dir_at c =
    c.is_dir_at-then-is_dir_at.ensures
    ∙ ap (λ b. b && is_dir_at (table_in c.args.geometry.now c.args.bytes.now) 1) (sym c.if-is_dir_at.true ∙ c.is_dir_at.ensures)

pub returns-else-is_dir_at : goal.returns-else-is_dir_at
returns-else-is_dir_at c =
    c.if-is_dir_at.false
    ∙ ap (λ b. b && is_dir_at (table_in c.args.geometry.now c.args.bytes.now) 1) (sym c.if-is_dir_at.false ∙ c.is_dir_at.ensures)
