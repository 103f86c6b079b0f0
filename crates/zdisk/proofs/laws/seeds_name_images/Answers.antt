use Rattle.zdisk.specs.SeedLaws.{image_after, image_before, image_named, mixture_named}
use Rattle.zdisk.proofs.laws.seeds_name_images.Goals as goal

pub returns-clause-before : goal.returns-clause-before
returns-clause-before c = image_before

pub returns-clause-after : goal.returns-clause-after
returns-clause-after c = image_after

pub returns-clause-image : goal.returns-clause-image
returns-clause-image c = image_named

pub returns-clause-mixture : goal.returns-clause-mixture
returns-clause-mixture c = mixture_named
