-- `text_numbers::print_text`: the text between what stood before it and what stood behind it. Assumes nothing.
use Rattle.text_numbers.proofs.PrintLaws.{put_printed}
use Rattle.text_numbers.proofs.print_text.Goals as goal

pub returns : goal.returns
returns c = put_printed c.args.out.now c.args.t.now _ c.args.at c.copy_from_slice.ensures.after c.requires
