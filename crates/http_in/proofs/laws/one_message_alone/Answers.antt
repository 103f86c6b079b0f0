use Rattle.http_in.specs.FrontLaws.{none_is_front}
use Rattle.http_in.specs.MessageLaws.{asked_stays}
use Rattle.http_in.specs.SizeLaws.{long_enough, longest_message}
use Rattle.http_in.specs.StreamLaws.{front_is_none, messages_are_one, none_begins}
use Rattle.http_in.proofs.laws.one_message_alone.Goals as goal

pub returns-clause-stand : goal.returns-clause-stand
returns-clause-stand c = asked_stays

pub returns-clause-one : goal.returns-clause-one
returns-clause-one c = messages_are_one

pub returns-clause-none_begins : goal.returns-clause-none_begins
returns-clause-none_begins c = none_begins

pub returns-clause-long : goal.returns-clause-long
returns-clause-long c = long_enough

pub returns-clause-longest : goal.returns-clause-longest
returns-clause-longest c = longest_message

pub returns-clause-front : goal.returns-clause-front
returns-clause-front c = none_is_front

pub returns-clause-none_yet : goal.returns-clause-none_yet
returns-clause-none_yet c = front_is_none
