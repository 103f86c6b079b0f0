use Rattle.dtml_format.proofs.Sizes.{is_cut, is_shorter}
use Rattle.dtml_format.proofs.sizing.sized.Goals as goal

pub returns : goal.returns
returns c =
    let shorter = is_shorter c.in-Some.count c.args.text.now c.first_chars-front.result.now c.first_chars-front.ensures.is c.if-front-text.false in
    rw (c.in_ok-push_str.ensures.ok, c.in_ok-cut.ensures, c.at_space.ensures, c.etc_or_dots.ensures, c.in-Some.is)
    (is_cut c.in-Some.count c.args.marks.now.etc c.args.text.now c.first_chars-front.result.now c.first_chars-front.ensures.is c.first_chars-front.ensures.more shorter)
