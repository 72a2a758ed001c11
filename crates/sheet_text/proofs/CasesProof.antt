-- The statements of specs/Cases.antt, by computation. Assumes nothing.
use mathlib.Core.Path.{refl}
use mathlib.Core.List.{flat_map}
use Rattle.sheet_text.specs.Text.{digits, decimal, spaced, heading, line, each_line, closing, refused_text}
use Rattle.sheet_text.specs.Cases.{HeadingLength, OneTide, TwoBlocks, TooFew, TriangleRefused, Decimals}

pub heading_length : HeadingLength
unfolding heading
heading_length = refl

pub one_tide : OneTide
unfolding heading each_line line closing flat_map spaced decimal digits
one_tide = refl

pub two_blocks : TwoBlocks
unfolding heading each_line line closing flat_map spaced decimal digits
two_blocks = refl

pub too_few : TooFew
unfolding refused_text decimal digits
too_few = refl

pub triangle_inequality : TriangleRefused
unfolding refused_text decimal digits
triangle_inequality = refl

pub decimals : Decimals
unfolding decimal digits
decimals = refl
