-- `copies::write_sound` meets its contract. Assumes nothing.
use borrow.Author.Rules.{rules}
use Rattle.copies.proofs.Ways.{sounds}
use Rattle.copies.proofs.write_sound.Goals as goal

pub copy_transform-m-requires : goal.copy_transform-m-requires
copy_transform-m-requires c = search (rules, sounds)
