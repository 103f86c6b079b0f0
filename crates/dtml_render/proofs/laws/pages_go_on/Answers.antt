use Rattle.namespace.specs.GoingOn.{goes_further, goes_still}
use Rattle.dtml_render.specs.ResumeLaws.{argument_goes, begins, block_ends, child_goes, children_end, children_open, node_goes, source_opens, turn_begins, turn_passes, turns_end, value_ends}
use Rattle.dtml_render.proofs.laws.pages_go_on.Goals as goal

pub returns : goal.returns
returns c = record {
  begins = λ k renders scope tree left shown. begins k renders scope tree left shown;
  further = λ k first second third p q r pq qr. goes_further k first second third p q r pq qr;
  still = λ k later shown mid p q more goes. goes_still k later shown mid p q more goes;
  node = λ k renders depth frames scope s shown mid item rest o le e. node_goes k renders depth frames scope s shown mid item rest o le e;
  argument = λ k renders depth frames scope s shown mid a x one o le value e. argument_goes k renders depth frames scope s shown mid a x one o le value e;
  source = λ k renders depth frames scope s shown mid one two at name waiting w object tree le found has granted reads.
      source_opens k renders depth frames scope s shown one two mid at name waiting w object tree le found has granted reads;
  value = λ k renders depth frames scope s shown mid acting waiting out o le e. value_ends k renders depth frames scope s shown mid acting waiting out o le e;
  children = λ k renders depth frames scope s shown mid at waiting whole children arg. children_open k renders depth frames scope s shown mid at waiting whole children arg;
  child = λ k renders depth frames scope s shown mid whole so_far child rest waiting found e. child_goes k renders depth frames scope s shown mid whole so_far child rest waiting found e;
  reached = λ k renders depth frames scope s shown mid whole items waiting o le e. children_end k renders depth frames scope s shown mid whole items waiting o le e;
  turn = λ k renders depth frames scope s shown mid left skip many i item items block le e. turn_begins k renders depth frames scope s left shown mid skip many i item items block le e;
  passed = λ k renders depth frames scope s shown mid left skip many i item items block e. turn_passes k renders depth frames scope s left shown mid skip many i item items block e;
  ends = λ k renders depth frames scope s shown skip many i block. (block_ends k renders depth frames scope s shown, turns_end k renders depth frames scope s shown skip many i block);
}
