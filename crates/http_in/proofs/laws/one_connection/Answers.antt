use Rattle.http_in.specs.SizeLaws.{few_reads}
use Rattle.http_in.specs.StreamLaws.{none_before, unread_is_nothing}
use Rattle.http_in.proofs.laws.one_connection.Goals as goal

pub returns-clause-reads : goal.returns-clause-reads
returns-clause-reads c = few_reads

pub returns-clause-unread : goal.returns-clause-unread
returns-clause-unread c = unread_is_nothing

pub returns-clause-before : goal.returns-clause-before
returns-clause-before c = none_before
