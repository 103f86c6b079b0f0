use Rattle.std.proofs.Common.{rules, ◌<◌, ◌≤◌, ◌≡◌, length, get_or, false, true}
use Rattle.catalog.proofs.Differing.{all_agree, first_is, one_more}
use Rattle.catalog.proofs.agreeing.first_differing.Goals as goal

pub returns-then-not-is_inverse : goal.returns-then-not-is_inverse
returns-then-not-is_inverse c =
    let few : c.loop-at.at < length c.args.contents.now.indexes = search rules in
    let is : c.index-indexes-at.result ≡ get_or c.args.contents.now.indexes c.loop-at.at c.index-indexes-at.result = search rules in
    let no : c.is_inverse.result ≡ false = search rules in
    first_is c.args.contents.now c.loop-at.at c.index-indexes-at.result c.as_slice-postings.result.now c.is_inverse.result few is (search rules) (search rules) no c.loop-at.invariant

pub loop-at-preserved : goal.loop-at-preserved
loop-at-preserved c =
    let few : c.loop-at.at < length c.args.contents.now.indexes = search rules in
    let is : c.index-indexes-at.result ≡ get_or c.args.contents.now.indexes c.loop-at.at c.index-indexes-at.result = search rules in
    let yes : c.is_inverse.result ≡ true = search rules in
    one_more c.args.contents.now c.loop-at.at c.index-indexes-at.result c.as_slice-postings.result.now c.is_inverse.result few is (search rules) (search rules) yes c.loop-at.invariant

pub returns : goal.returns
returns c =
    let all : length c.args.contents.now.indexes ≤ c.loop-at.at = search rules in
    all_agree c.args.contents.now c.loop-at.at c.requires.entries c.requires.indexes all c.loop-at.invariant
