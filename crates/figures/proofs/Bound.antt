-- The bound from the figures of a system.
use Rattle.figures.specs.Claims.{BoundFromFigures}

pub bound-from_figures : BoundFromFigures
bound-from_figures d s f h = rw (h.wait, h.timeout, h.period, h.heads)
