-- What the definitions say at the ends of the range, computed. 2147483647 is the greatest number, `negsuc 2147483647` the least.
use mathlib.Core.Path.{◌≡◌, refl}
use mathlib.Core.Bool.{true}
use lib.IntN.{ℤ, pos, negsuc, neg_ℤ, ◌+ℤ◌, ◌-ℤ◌, ◌*ℤ◌}
use mir.Syntax.{w8, w32}
use Rattle.std.specs.Prelude.{Some, None}
use Rattle.num_arith.specs.Wrap.{word, wrap}
use Rattle.num_arith.specs.Ops.{quotient, holds, bit_at}

most : ℤ
most = pos 2147483647

least : ℤ
least = negsuc 2147483647

add_over : wrap w32 (most +ℤ pos 1) ≡ least
unfolding most least wrap word
add_over = refl

sub_under : wrap w32 (least -ℤ pos 1) ≡ most
unfolding most least wrap word
sub_under = refl

neg_least : wrap w32 (neg_ℤ least) ≡ least
unfolding least wrap word
neg_least = refl

mul_least : wrap w32 (least *ℤ least) ≡ pos 0
unfolding least wrap word
mul_least = refl

mul_most : wrap w32 (most *ℤ most) ≡ pos 1
unfolding most wrap word
mul_most = refl

-- -7 / 2 is -3, and -2^31 / -1 is -2^31
div_toward_zero : quotient (negsuc 6) (pos 2) ≡ Some (negsuc 2)
unfolding quotient wrap word
div_toward_zero = refl

div_least : quotient least (negsuc 0) ≡ Some least
unfolding least quotient wrap word
div_least = refl

div_zero : quotient (pos 5) (pos 0) ≡ None
unfolding quotient
div_zero = refl

-- least < 1, and their difference as it is cut is not negative
less_least : holds 1 least (pos 1) ≡ true
unfolding least holds
less_least = refl

cut_least : holds 6 least (pos 1) ≡ true
unfolding least holds wrap word
cut_least = refl

sign_bit : bit_at w32 31 (negsuc 0) ≡ true
unfolding bit_at word
sign_bit = refl

-- at another width
byte_over : wrap w8 (pos 128) ≡ negsuc 127
unfolding wrap word
byte_over = refl
