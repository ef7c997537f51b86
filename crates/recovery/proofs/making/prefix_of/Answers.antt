use Rattle.std.proofs.Common.{List, ℕ, length, refl, ◌∙◌, ap}
use Rattle.block_layout.specs.Super.{super_bytes}
use Rattle.recovery.proofs.Written.{filled_up}
use Rattle.recovery.proofs.making.prefix_of.Goals as goal

pub returns : goal.returns
returns c =
    filled_up c.args.size c.in_ok-front.front.len c.in_ok-front.front.items c.resize.new.self.items (super_bytes c.args.geometry.now.blocks c.args.geometry.now.inodes) c.requires
    (c.in_ok-front.ensures.items_if_clones_equal (λ x y e. e) ∙ c.encode_super.ensures) refl
    (c.in_ok-front.ensures.len ∙ ap (λ (l : List ℕ). length l) c.encode_super.ensures)
    c.in_ok-resize.ensures.items
