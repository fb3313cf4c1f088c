-- The two worked sets fit.
use Rattle.std.proofs.Common.{get_or, refl, arith}
use Rattle.std.proofs.lemmas.Int.{ints}
use Rattle.sig_blobs.specs.Templates.{decimal_of}
use Rattle.wr_base.specs.Trees.{name_of}
use Rattle.winmd_lines.specs.Orders.{Rising}
use Rattle.winmd_sets.specs.Examples.{point}
use Rattle.winmd_sets.specs.Fits.{DeclFits, Fits}
use Rattle.winmd_sets.specs.Shop.{shop}
use Rattle.winmd_sets.specs.Mix.{mix}

shop_0 : DeclFits (get_or shop 0 point)
shop_0 = record { named = record { path = refl; short = refl }; numbered = omega arith; id_fits = omega arith; signed = record { result = tt; params = (record { named = record { identifier = refl; short = omega arith }; kind = tt }, tt); few = omega arith } }

shop_1 : DeclFits (get_or shop 1 point)
shop_1 = record { named = record { path = refl; short = refl }; numbered = omega arith; uses = (record { path = refl; short = refl }, tt); rising = tt; one = refl; factories = (record { path = refl; short = refl }, tt); factories_rising = tt; statics = tt; statics_rising = tt }

shop_2 : DeclFits (get_or shop 2 point)
shop_2 = record { named = record { path = refl; short = refl }; numbered = omega arith; uses = (record { path = refl; short = refl }, (record { path = refl; short = refl }, tt)); rising = (refl, tt); one = refl; factories = tt; factories_rising = tt; statics = (record { path = refl; short = refl }, tt); statics_rising = tt }

shop_3 : DeclFits (get_or shop 3 point)
shop_3 = record { named = record { path = refl; short = refl }; numbered = omega arith; uses = (record { path = refl; short = refl }, tt); rising = tt; one = refl; factories = tt; factories_rising = tt; statics = tt; statics_rising = tt }

shop_4 : DeclFits (get_or shop 4 point)
shop_4 = record { named = record { path = refl; short = refl }; numbered = omega arith; id_fits = omega arith; owned_by = tt; few = omega arith; uses = tt; rising = tt; members = (record { named = record { identifier = refl; short = omega arith }; abi_named = record { identifier = refl; short = omega arith }; signed = record { result = tt; params = tt; few = omega arith } }, tt) }

shop_5 : DeclFits (get_or shop 5 point)
shop_5 = record { named = record { path = refl; short = refl }; numbered = omega arith; id_fits = omega arith; owned_by = record { path = refl; short = refl }; few = omega arith; uses = tt; rising = tt; members = (record { named = record { identifier = refl; short = omega arith }; abi_named = record { identifier = refl; short = omega arith }; signed = record { result = record { path = refl; short = refl }; params = (record { named = record { identifier = refl; short = omega arith }; kind = tt }, tt); few = omega arith } }, tt) }

shop_6 : DeclFits (get_or shop 6 point)
shop_6 = record { named = record { path = refl; short = refl }; numbered = omega arith; id_fits = omega arith; owned_by = record { path = refl; short = refl }; few = omega arith; uses = tt; rising = tt; members = ((record { identifier = refl; short = omega arith }, tt), (record { named = record { identifier = refl; short = omega arith }; abi_named = record { identifier = refl; short = omega arith }; signed = record { result = tt; params = (record { named = record { identifier = refl; short = omega arith }; kind = tt }, (record { named = record { identifier = refl; short = omega arith }; kind = tt }, tt)); few = omega arith } }, tt)) }

shop_7 : DeclFits (get_or shop 7 point)
shop_7 = record { named = record { path = refl; short = refl }; numbered = omega arith; id_fits = omega arith; owned_by = record { path = refl; short = refl }; few = omega arith; uses = tt; rising = tt; members = ((record { identifier = refl; short = omega arith }, record { path = refl; short = refl }), tt) }

shop_8 : DeclFits (get_or shop 8 point)
shop_8 = record { named = record { path = refl; short = refl }; numbered = omega arith; id_fits = omega arith; owned_by = record { path = refl; short = refl }; few = omega arith; uses = tt; rising = tt; members = ((record { identifier = refl; short = omega arith }, tt), (record { named = record { identifier = refl; short = omega arith }; abi_named = record { identifier = refl; short = omega arith }; signed = record { result = tt; params = (record { named = record { identifier = refl; short = omega arith }; kind = tt }, tt); few = omega arith } }, ((record { identifier = refl; short = omega arith }, record { path = refl; short = refl }), tt))) }

shop_9 : DeclFits (get_or shop 9 point)
shop_9 = record { named = record { path = refl; short = refl }; numbered = omega arith; few = omega arith; cases = (record { named = record { identifier = refl; short = omega arith }; fits = record { low = omega (arith, ints); high = omega (arith, ints) } }, (record { named = record { identifier = refl; short = omega arith }; fits = record { low = omega (arith, ints); high = omega (arith, ints) } }, (record { named = record { identifier = refl; short = omega arith }; fits = record { low = omega (arith, ints); high = omega (arith, ints) } }, tt))) }

pub shop_fits : Fits shop
shop_fits = record {
  each = (shop_0, (shop_1, (shop_2, (shop_3, (shop_4, (shop_5, (shop_6, (shop_7, (shop_8, (shop_9, tt))))))))));
  set = (omega arith, omega arith, refl, (omega arith, omega arith, refl, (omega arith, omega arith, refl, (omega arith, omega arith, refl, (omega arith, omega arith, refl, (omega arith, omega arith, refl, (omega arith, omega arith, refl, (omega arith, omega arith, refl, (omega arith, omega arith, refl, (omega arith, omega arith, refl, tt))))))))));
  names = record { refs = omega arith; types = omega arith };
}

pub shop_rising : Rising name_of shop
shop_rising = (refl, (refl, (refl, (refl, (refl, (refl, (refl, (refl, (refl, tt)))))))))

mix_0 : DeclFits (get_or mix 0 point)
mix_0 = record { named = record { path = refl; short = refl }; numbered = omega arith; id_fits = omega arith; owned_by = tt; few = omega arith; uses = tt; rising = tt; members = (record { named = record { identifier = refl; short = omega arith }; abi_named = record { identifier = refl; short = omega arith }; signed = record { result = tt; params = tt; few = omega arith } }, tt) }

mix_1 : DeclFits (get_or mix 1 point)
mix_1 = record { named = record { path = refl; short = refl }; numbered = omega arith; id_fits = omega arith; owned_by = tt; few = omega arith; uses = (record { path = refl; short = refl }, (record { path = refl; short = refl }, ((record { path = refl; short = refl }, omega arith, omega arith, (tt, tt)), tt))); rising = (refl, (refl, tt)); members = ((record { identifier = refl; short = omega arith }, tt), ((record { identifier = refl; short = omega arith }, (record { path = refl; short = refl }, refl)), (record { named = record { identifier = refl; short = omega arith }; abi_named = record { identifier = refl; short = omega arith }; signed = record { result = tt; params = tt; few = omega arith } }, (record { named = record { identifier = refl; short = omega arith }; abi_named = record { identifier = refl; short = omega arith }; signed = record { result = tt; params = (record { named = record { identifier = refl; short = omega arith }; kind = tt }, tt); few = omega arith } }, ((record { identifier = refl; short = omega arith }, record { path = refl; short = refl }), (record { named = record { identifier = refl; short = omega arith }; abi_named = record { identifier = refl; short = omega arith }; signed = record { result = (record { path = refl; short = refl }, omega arith, omega arith, ((record { path = refl; short = refl }, refl), tt)); params = (record { named = record { identifier = refl; short = omega arith }; kind = tt }, tt); few = omega arith } }, ((record { identifier = refl; short = omega arith }, (record { path = refl; short = refl }, omega arith, omega arith, (record { path = refl; short = refl }, ((record { path = refl; short = refl }, refl), tt)))), tt))))))) }

mix_2 : DeclFits (get_or mix 2 point)
mix_2 = record { named = record { path = refl; short = refl }; numbered = omega arith; id_fits = omega arith; owned_by = record { path = refl; short = refl }; few = omega arith; uses = tt; rising = tt; members = (record { named = record { identifier = refl; short = omega arith }; abi_named = record { identifier = refl; short = omega arith }; signed = record { result = record { path = refl; short = refl }; params = (record { named = record { identifier = refl; short = omega arith }; kind = tt }, tt); few = omega arith } }, tt) }

mix_3 : DeclFits (get_or mix 3 point)
mix_3 = record { named = record { path = refl; short = refl }; numbered = omega arith; id_fits = omega arith; owned_by = record { path = refl; short = refl }; few = omega arith; uses = tt; rising = tt; members = ((record { identifier = refl; short = omega arith }, tt), tt) }

mix_4 : DeclFits (get_or mix 4 point)
mix_4 = record { named = record { path = refl; short = refl }; numbered = omega arith; id_fits = omega arith; signed = record { result = tt; params = (record { named = record { identifier = refl; short = omega arith }; kind = tt }, (record { named = record { identifier = refl; short = omega arith }; kind = (record { path = refl; short = refl }, refl) }, tt)); few = omega arith } }

mix_5 : DeclFits (get_or mix 5 point)
mix_5 = record { named = record { path = refl; short = refl }; numbered = omega arith; few = omega arith; cases = (record { named = record { identifier = refl; short = omega arith }; fits = record { low = omega (arith, ints); high = omega (arith, ints) } }, (record { named = record { identifier = refl; short = omega arith }; fits = record { low = omega (arith, ints); high = omega (arith, ints) } }, (record { named = record { identifier = refl; short = omega arith }; fits = record { low = omega (arith, ints); high = omega (arith, ints) } }, tt))) }

mix_6 : DeclFits (get_or mix 6 point)
mix_6 = record { named = record { path = refl; short = refl }; numbered = omega arith; few = omega arith; fields = (record { named = record { identifier = refl; short = omega arith }; kind = tt }, (record { named = record { identifier = refl; short = omega arith }; kind = tt }, (record { named = record { identifier = refl; short = omega arith }; kind = tt }, (record { named = record { identifier = refl; short = omega arith }; kind = (record { path = refl; short = refl }, refl) }, tt)))) }

mix_7 : DeclFits (get_or mix 7 point)
mix_7 = record { named = record { path = refl; short = refl }; numbered = omega arith; uses = (record { path = refl; short = refl }, (record { path = refl; short = refl }, (record { path = refl; short = refl }, ((record { path = refl; short = refl }, omega arith, omega arith, (tt, tt)), tt)))); rising = (refl, (refl, (refl, tt))); one = refl; factories = (record { path = refl; short = refl }, tt); factories_rising = tt; statics = (record { path = refl; short = refl }, tt); statics_rising = tt }

pub mix_fits : Fits mix
unfolding decimal_of
mix_fits = record {
  each = (mix_0, (mix_1, (mix_2, (mix_3, (mix_4, (mix_5, (mix_6, (mix_7, tt))))))));
  set = (omega arith, omega arith, refl, (omega arith, omega arith, refl, (omega arith, omega arith, refl, (omega arith, omega arith, refl, (omega arith, omega arith, refl, (omega arith, omega arith, refl, (omega arith, omega arith, refl, (omega arith, omega arith, refl, tt))))))));
  names = record { refs = omega arith; types = omega arith };
}

pub mix_rising : Rising name_of mix
mix_rising = (refl, (refl, (refl, (refl, (refl, (refl, (refl, tt)))))))
